use Rattle.fv_steal.specs.inner.Gathers.{HaveGiven}
use Rattle.fv_steal.proofs.all_holds.gather.Given as goal

abbrev pub invariant-loop-w : goal.invariant-loop-w
invariant-loop-w g l = record { given : HaveGiven l.w l.initial.workers l.workers }
