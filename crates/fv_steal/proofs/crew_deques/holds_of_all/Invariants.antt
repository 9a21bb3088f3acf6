use Rattle.fv_steal.specs.inner.Made.{HaveLent}
use Rattle.fv_steal.proofs.crew_deques.holds_of_all.Given as goal

abbrev pub invariant-loop-w : goal.invariant-loop-w
invariant-loop-w l = record { lent : HaveLent l._w l.initial.deques.items l.deques.items l.all.items }
