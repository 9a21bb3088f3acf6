use Rattle.std.proofs.Common.{◌≡◌, ℕ, ◌<◌, true, sym, subst}
use Rattle.fv_graph.specs.Tasks.{Tasks}
use Rattle.fv_graph.specs.TasksBeside.{task_count}
use Rattle.fv_graph.specs.Graph.{net_of}
use Rattle.fv_graph.specs.Core.{after, is_done}
use Rattle.fv_graph.specs.Law.{AllLeft}
use Rattle.fv_graph.specs.Ready.{FindsReady}
use Rattle.fv_graph.specs.Running.{Running}
use Rattle.fv_graph.proofs.Legal.{after_running, running_ready, running_done}
use Rattle.fv_graph.proofs.task_core.Core.step.Goals as goal

pub returns-then-not-may-clause-ends : goal.returns-then-not-may-clause-ends
returns-then-not-may-clause-ends c =
    λ gone t h. running_done c.args.self.now c.may.ensures.running gone t (subst (λ (g : Tasks). t < task_count g) (sym c.requires.same) h)

pub returns-clause-ready : goal.returns-clause-ready
returns-clause-ready c = subst (λ (g : Tasks). FindsReady g c.args.self.now.now c.args.event) c.requires.same
    (running_ready c.args.self.now c.args.event c.may.ensures.running (sym c.if-not-may.ensures.value))

pub returns-clause-ends : goal.returns-clause-ends
returns-clause-ends c =
    let r = c.args.self.now in
    subst (λ (x : Running). AllLeft x.now x.workers → (t : ℕ) → t < task_count c.args.tasks.now.tasks → is_done x.now t ≡ true) (sym c.act.ensures)
    (λ gone t h. running_done (record r { now = after (net_of r.tasks) r.now c.args.event })
    (after_running r c.args.event c.may.ensures.running (sym c.if-not-may.ensures.value)) gone t
    (subst (λ (g : Tasks). t < task_count g) (sym c.requires.same) h))
