use Rattle.fv_steal.specs.inner.Drains.{AreDrained}
use Rattle.fv_steal.proofs.crew_work.drain_all.Given as goal

abbrev pub invariant-loop-k : goal.invariant-loop-k
invariant-loop-k g l = record { drained : AreDrained g.C.Parcel.edge_of g.C.Parcel.key_of l.board l.tasks.tasks l.k l.initial.workers l.workers }
