-- What a link says of the two parts of a row, and what sharing changes.
use Rattle.std.specs.Prelude.{ℕ, ◌+◌, ◌*◌, ◌^◌, ◌<◌, ◌≡◌, List, ◌++◌, length, take, drop}
use lib.IntN.{ℤ}
use denote.Bor.{Bor}
use denote.MutBor.{MutBor}
use Rattle.fv_pool.specs.Row.{cell_after}
use Rattle.fv_pool.specs.declared.loan.Link.{Link}

-- the rest begins where the front ends, both fit, and the link ties the rest's loan
abbrev pub IsLinked : Link → Bor (List ℤ) → MutBor (List ℤ) → Type 0
IsLinked d front rest = (d.rest ≡ rest.ghost_name) × (d.front ≡ front.now) × (rest.ref_ptr ≡ cell_after front.ref_ptr (length front.now))
    × ((length front.now + length rest.now) * 4 < 2 ^ 63)

-- the first k cells of the rest were added to the front
abbrev pub IsShared : Link → Bor (List ℤ) → MutBor (List ℤ) → ℕ → Link → Bor (List ℤ) → MutBor (List ℤ) → Type 0
IsShared d front rest k d' front' rest' =
    (front'.now ≡ front.now ++ take k rest.now) × (rest'.now ≡ drop k rest.now) × (d'.whole ≡ d.whole) × (front'.ref_ptr ≡ front.ref_ptr)
    × IsLinked d' front' rest'
