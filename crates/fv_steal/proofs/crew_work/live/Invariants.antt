use Rattle.fv_steal.specs.inner.Turns.{HasTurned}
use Rattle.fv_steal.proofs.crew_work.live.Given as goal

abbrev pub invariant-loop : goal.invariant-loop
invariant-loop g l = (goal.iterator-loop g).can_next l.iterator' × (goal.iterator-loop g).is_finite l.iterator' × record {
  turned : HasTurned g.C.Parcel.edge_of g.C.Parcel.key_of l.board l.tasks.tasks l.initial.worker l.worker;
}
