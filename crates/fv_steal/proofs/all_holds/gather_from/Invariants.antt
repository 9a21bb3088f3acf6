use Rattle.std.proofs.Common.{◌≤◌, length, get_or}
use Rattle.fv_outside.specs.headline.Tasks.{total}
use Rattle.fv_steal.specs.inner.Gathers.{HasGiven}
use Rattle.fv_steal.specs.declared.worker.Worker.{Worker}
use Rattle.fv_steal.proofs.all_holds.gather_from.Given as goal

abbrev pub invariant-loop-victim : goal.invariant-loop-victim
invariant-loop-victim g l = record {
  given : (d : Worker g.row.C.Denot) → HasGiven l.w (length (get_or l.workers l.w d).victims.items) l.initial.workers l.workers;
  low : (d : Worker g.row.C.Denot) → length (get_or l.workers l.w d).victims.items ≤ length l.initial.workers;
}

abbrev pub decreases-loop-victim : goal.decreases-loop-victim
decreases-loop-victim g l = total (λ (m : Worker g.row.C.Denot). length m.victims.items) l.workers
