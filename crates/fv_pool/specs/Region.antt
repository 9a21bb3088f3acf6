-- What a region shows, and what it ends as where its cells were lent.
use Rattle.std.specs.Prelude.{List, ℤ}
use Rattle.std.specs.Borrow.{Lends, MutBor, Fml, i32, Array}
use denote.Follow.{follows}
use Rattle.std.specs.Vec.{with_items}
use Rattle.fv_pool.specs.declared.region.Region.{Region}
use Rattle.fv_pool.specs.declared.part.Cutter.{Cutter}
use Rattle.fv_pool.specs.contracts.region.Region.{the_row}

-- the cells of a region, in order
abbrev pub cells_of : Region → List ℤ
cells_of r = r.cells.items

-- the region with these cells
abbrev pub with_cells : Region → List ℤ → Region
with_cells r xs = record r { cells = with_items r.cells xs }

-- the region ends with the cells that the loan ends with
abbrev pub LendsCells : MutBor Region → MutBor (List ℤ) → Fml
LendsCells s r = Lends the_row (Array i32 0) s r (with_cells s.now)

-- the region ends with the cells that the loan of the cutter's rest ends with
abbrev pub LendsParts : MutBor Region → Cutter → Fml
LendsParts s c = follows the_row (Array i32 0) s.ghost_name c.rest.cells.ghost_name (with_cells s.now)
