use Rattle.fv_engine.proofs.Made.{ShapesSoFar}
use Rattle.fv_engine.proofs.make.shapes.Given as goal

abbrev pub invariant-loop-i : goal.invariant-loop-i
invariant-loop-i l = ShapesSoFar l.plan l.block l.i l.shapes.items
