use Rattle.fv_engine_crew.proofs.ChangingPlaces.{AreSwappedSoFar}
use Rattle.fv_engine_crew.proofs.cell_swap.swap_cells.Given as goal

abbrev pub invariant-loop-k : goal.invariant-loop-k
invariant-loop-k l = AreSwappedSoFar l.plan l.places.places.items l.k l.fn.lists l.lists l.fn.writers l.writers
