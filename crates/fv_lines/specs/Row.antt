-- What ties the parts of a row of cells.
use Rattle.std.specs.Prelude.{◌+◌, ◌*◌, ◌^◌, ◌<◌, ◌≡◌, List, length}
use lib.IntN.{ℤ}
use denote.Bor.{Bor}
use denote.RawPtr.{block_ptr}
use Rattle.fv_pool.specs.declared.cells.Cells.{Cells}
use Rattle.fv_pool.specs.declared.loan.Link.{Link}

-- the rest begins where the front ends, both fit, and the link ties the rest's loan
abbrev pub IsRow : Link → Bor (List ℤ) → Cells → Type 0
IsRow d front rest =
    (d.rest ≡ rest.name) × (d.front ≡ front.now)
    × (rest.at ≡ block_ptr front.ref_ptr.0 (length front.now * 4 + front.ref_ptr.1)) × ((length front.now + length rest.items) * 4 < 2 ^ 63)
