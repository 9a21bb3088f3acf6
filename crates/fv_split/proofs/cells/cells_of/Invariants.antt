use Rattle.fv_split.specs.inner.Cells.{AreCells}
use Rattle.fv_split.proofs.cells.cells_of.Given as goal

abbrev pub invariant-loop-s : goal.invariant-loop-s
invariant-loop-s l = AreCells l.graph l.homes l.s l.cells
