use Rattle.std.proofs.Common.{None}
use Rattle.fv_steal.specs.inner.Turns.{HasStolen}
use Rattle.fv_steal.proofs.crew_work.steal.Given as goal

abbrev pub invariant-loop : goal.invariant-loop
invariant-loop l = record { stolen : HasStolen None l.initial.victims l.victims }
