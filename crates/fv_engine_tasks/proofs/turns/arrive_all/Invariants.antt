use Rattle.std.proofs.Common.{◌≡◌, drop}
use Rattle.fv_engine_tasks.specs.Events.{Owes, KeepsCore}
use Rattle.fv_engine_tasks.proofs.turns.arrive_all.Given as goal

abbrev pub invariant-loop-i : goal.invariant-loop-i
invariant-loop-i l = record {
  kept : KeepsCore l.initial.core l.core;
  done : l.core.now.done ≡ l.initial.core.now.done;
  owes : Owes l.core.now (drop l.i l.feeds);
}
