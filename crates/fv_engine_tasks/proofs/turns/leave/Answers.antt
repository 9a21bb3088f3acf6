use Rattle.std.proofs.Common.{◌≡◌, ℕ, ◌<◌, true, sym, ◌∙◌, subst}
use Rattle.fv_outside.specs.Tasks.{task_count}
use Rattle.fv_graph.specs.Graph.{net_of}
use Rattle.fv_graph.specs.Core.{after, is_legal, is_done}
use Rattle.fv_graph.specs.Law.{AllLeft}
use Rattle.fv_graph.specs.Running.{Running}
use Rattle.fv_graph.specs.declared.event.Event.TheVariants.{Leave}
use Rattle.fv_engine_tasks.proofs.EventLemmas.{may_leave, left_all, where_ok}
use Rattle.fv_engine_tasks.proofs.turns.leave.Goals as goal

pub returns-clause-done : goal.returns-clause-done
returns-clause-done c =
    let old = c.args.core.now in let g = c.args.tasks.now.tasks in let n = net_of g in
    let legal : is_legal n old.now (Leave 0) ≡ true = may_leave n old.now c.requires.free c.requires.empty in
    let is = where_ok c.step.result (c.step.new.self ≡ record old { now = after n old.now (Leave 0) }) (c.step.ensures.legal ∙ legal) c.step.ensures.ok in
    let ends = subst (λ (x : Running). AllLeft x.now x.workers → (t : ℕ) → t < task_count g → is_done x.now t ≡ true) is c.step.ensures.ends in
    ends (subst (λ w. AllLeft (after n old.now (Leave 0)) w) (sym c.requires.one) (left_all n old.now c.requires.free))
