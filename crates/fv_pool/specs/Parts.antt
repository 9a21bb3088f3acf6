-- What a cutter and its parts show.
use Rattle.std.specs.Prelude.{ℕ, ◌≡◌, ◌+◌, List, sum, take, drop, ℤ}
use Rattle.fv_pool.specs.Layout.{part}
use Rattle.fv_pool.specs.declared.part.Part.{Part}
use Rattle.fv_pool.specs.declared.part.Cutter.{Cutter}

-- the lengths of a cutter's parts
abbrev pub parts_of : Cutter → List ℕ
parts_of c = c.layout.now

-- how many parts it has given
abbrev pub given_by : Cutter → ℕ
given_by c = c.given

-- The cutter has given the first parts of these lengths, out of these cells.
pub record IsCutter (lengths : List ℕ) (given : ℕ) (cells : List ℤ) (cutter : Cutter) : Type 0 where
  pub lengths_are : parts_of cutter ≡ lengths
  pub given_are : given_by cutter ≡ given
  pub left : cutter.rest.cells.now ≡ drop (sum (take given lengths)) cells

-- the next part of the cells, which lies apart from those to come: the loan of what was left was cut in these two
pub record Gives (old new : Cutter) (p : Part) : Type 0 where
  pub cells : (cells : List ℤ) → IsCutter (parts_of old) (given_by old) cells old → p.cells.items ≡ part (parts_of old) (given_by old) cells
  pub left : (cells : List ℤ) → IsCutter (parts_of old) (given_by old) cells old → IsCutter (parts_of old) (given_by old + 1) cells new
  pub whole : p.halves.whole ≡ old.rest.cells.ghost_name
  pub high : p.halves.high ≡ new.rest.cells.ghost_name
