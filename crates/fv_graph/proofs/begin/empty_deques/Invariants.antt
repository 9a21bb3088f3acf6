use Rattle.std.proofs.Common.{◌≡◌, [], replicate}
use Rattle.fv_graph.specs.Kept.{deques_of, rooms_of}
use Rattle.fv_graph.proofs.begin.empty_deques.Given as goal

abbrev pub invariant-loop-worker : goal.invariant-loop-worker
invariant-loop-worker l = (deques_of l.deques.items ≡ replicate l._worker []) × (rooms_of l.deques.items ≡ replicate l._worker l.room)
