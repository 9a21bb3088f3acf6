use Rattle.std.proofs.Common.{◌≡◌}
use Rattle.std.specs.Prelude.{All}
use Rattle.fv_outside.specs.declared.gate.Line.{Line}
use Rattle.fv_loopcode.specs.Words.{argument}
use Rattle.fv_loopcode.specs.headline.State.{State}
use Rattle.fv_engine_tasks.specs.Block.{IsReal}
use Rattle.fv_engine_tasks.specs.Jobs.{left_to_do, block_of, ServeAll}
use Rattle.fv_engine_tasks.specs.Events.{KeepsCore}
use Rattle.fv_engine_tasks.specs.Underway.{IsUnderway}
use Rattle.fv_engine_tasks.proofs.turns.run_tasks.Given as goal

abbrev pub invariant-loop-t : goal.invariant-loop-t
invariant-loop-t g l = record {
  core : KeepsCore l.initial.core l.core;
  valid : g.S.Store.is_valid l.store;
  kept : g.S.Store.rest l.store ≡ g.S.Store.rest l.initial.store;
  scratch : ServeAll (g.P.Codes.parts l.job.plan.now) (argument l.job.held.now) l.scratches;
  room : l.lines.cap ≡ l.initial.lines.cap;
  who : All (λ (line : Line). line.worker ≡ 0) l.initial.lines.items → All (λ (line : Line). line.worker ≡ 0) l.lines.items;
  goes_on : (first : State) → IsReal (block_of g.P.Codes.parts l.job) first
      → IsUnderway l.tasks.tasks (block_of g.P.Codes.parts l.job) first l.initial.core.now (g.S.Store.state l.initial.store) l.initial.lines.items
      → IsUnderway l.tasks.tasks (block_of g.P.Codes.parts l.job) first l.core.now (g.S.Store.state l.store) l.lines.items;
}

abbrev pub decreases-loop-t : goal.decreases-loop-t
decreases-loop-t g l = left_to_do l.core.now.done
