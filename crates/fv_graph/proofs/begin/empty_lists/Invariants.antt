use Rattle.std.proofs.Common.{◌≡◌, [], replicate}
use Rattle.fv_graph.specs.Kept.{owed_of, owed_rooms}
use Rattle.fv_graph.proofs.begin.empty_lists.Given as goal

abbrev pub invariant-loop-worker : goal.invariant-loop-worker
invariant-loop-worker l = (owed_of l.lists.items ≡ replicate l._worker []) × (owed_rooms l.lists.items ≡ replicate l._worker l.room)
