use Rattle.std.proofs.Common.{None}
use Rattle.fv_steal.specs.inner.Turns.{HasStolen}
use Rattle.fv_steal.proofs.crew_work.steal_round.Given as goal

abbrev pub invariant-loop-i : goal.invariant-loop-i
invariant-loop-i l = record { stolen : HasStolen None l.initial.victims l.victims }
