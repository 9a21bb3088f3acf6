use Rattle.fv_steal.specs.inner.Made.{HasLent}
use Rattle.fv_steal.proofs.crew_deques.holds_on_all.Given as goal

abbrev pub invariant-loop-i : goal.invariant-loop-i
invariant-loop-i l = record { lent : HasLent l.i l.initial.deques.items l.deques.items l.victims.items }
