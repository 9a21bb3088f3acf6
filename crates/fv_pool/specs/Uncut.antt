-- What cells show of which parts are cut.
use Rattle.std.specs.Prelude.{ℕ, ◌≡◌, List, take, drop, ℤ}
use base.Fml.{GName}
use Rattle.fv_pool.specs.declared.part.Part.{Part}
use Rattle.fv_pool.specs.declared.part.Uncut.{Uncut}

-- the cells that are left
abbrev pub left_of : Uncut → List ℤ
left_of u = u.cells.now

-- the name of their loan
abbrev pub loan_of : Uncut → GName
loan_of u = u.cells.ghost_name

-- The first len cells were cut off: the loan of what was left became that of the part and that of the rest.
pub record IsCut (old new : Uncut) (len : ℕ) (p : Part) : Type 0 where
  pub count : p.len ≡ len
  pub cells : p.cells.items ≡ take len (left_of old)
  pub left : left_of new ≡ drop len (left_of old)
  pub whole : p.halves.whole ≡ loan_of old
  pub high : p.halves.high ≡ loan_of new
