use Rattle.std.proofs.Common.{◌&&◌, ap, sym, ◌∙◌, is_none}
use Rattle.fv_graph.specs.Graph.{net_of}
use Rattle.fv_graph.specs.Core.{is_legal, deque_of, is_run}
use Rattle.fv_graph.specs.Ends.{back_of}
use Rattle.fv_graph.proofs.Legal.{leave_legal, none_from, take_legal}
use Rattle.fv_graph.proofs.task_core.Core.may.Goals as goal

pub returns-then-is_free-3-clause-value : goal.returns-then-is_free-3-clause-value
returns-then-is_free-3-clause-value c =
    let r = c.args.self.now in let w = c.in-Leave.worker in
    let free = sym c.is_free-in-Leave.ensures.value ∙ c.if-is_free-3.true in
    none_from c.next_of-then-is_free-3.result c.is_none.result c.is_none.ensures ∙ ap is_none c.next_of-then-is_free-3.ensures
    ∙ ap (λ b. b && is_none (back_of (deque_of r.now w))) (sym free)
    ∙ leave_legal (net_of r.tasks) r.workers r.now c.is_free-in-Leave.ensures.running.valid w ∙ ap (is_legal (net_of r.tasks) r.now) (sym c.in-Leave.is)

pub returns-then-is_free-clause-value : goal.returns-then-is_free-clause-value
returns-then-is_free-clause-value c =
    let r = c.args.self.now in let w = c.in-Take.worker in let t = c.in-Take.task in
    let free = sym c.is_free.ensures.value ∙ c.if-is_free.true in
    c.names.ensures ∙ ap (is_run t) c.next_of.ensures ∙ ap (λ b. b && is_run t (back_of (deque_of r.now w))) (sym free)
    ∙ take_legal (net_of r.tasks) r.workers r.now c.is_free.ensures.running.valid w t ∙ ap (is_legal (net_of r.tasks) r.now) (sym c.in-Take.is)
