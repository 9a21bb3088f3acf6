use Rattle.std.proofs.Common.{◌∷◌, ap, ◌∙◌, rules, length, Global, All, subst, sym}
use Rattle.std.specs.declared.collections.VecDeque.{VecDeque}
use Rattle.std.proofs.lemmas.Result.{IfOk-weaker}
use Rattle.fv_diagram.specs.declared.pending.Task.TheVariants as task
use Rattle.fv_diagram.proofs.lemmas.Turns.{by_task, right_advances, join_advances, deal_advances}
use Rattle.fv_diagram.proofs.lemmas.Turns.{sum_advances, before_advances, close_advances, unplug_advances}
use Rattle.fv_diagram.proofs.pending.turn.Goals as goal

pub returns-in_ok-push_front-in-Right-2 : goal.returns-in_ok-push_front-in-Right-2
returns-in_ok-push_front-in-Right-2 g c = by_task _ _ _ _ _ _ _ _ _ _ _ c.in-Right.is
    (right_advances _ c.args.pending.now.tasks.items _ c.args.pending.now.plugs.items c.args.now c.in-Right.rest c.args.signals.now c.in-Right.id
    (c.in_ok-push_front-in-Right-2.ensures.items ∙ ap (λ ts. task.Visit c.in-Right.id ∷ ts) c.in_ok-push_front-in-Right.ensures.items)) c.requires

pub returns-in-Join : goal.returns-in-Join
returns-in-Join g c =
    IfOk-weaker {X = VecDeque _ Global} _ _ _ (λ v x. by_task _ _ _ _ _ _ _ _ _ _ _ c.in-Join.is
    (join_advances _ c.args.pending.now.tasks.items c.args.pending.now.plugs.items c.args.now.items v.items c.in-Join.left c.args.signals.now (search rules))
    c.requires) c.joined.ensures

pub returns-in-Deal : goal.returns-in-Deal
returns-in-Deal g c =
    IfOk-weaker {X = VecDeque _ Global} _ _ _ (λ v x. by_task _ _ _ _ _ _ _ _ _ _ _ c.in-Deal.is
    (deal_advances _ c.args.pending.now.tasks.items c.args.pending.now.plugs.items c.args.now.items v.items c.args.signals.now c.in-Deal.to (search rules))
    c.requires) c.deal.ensures

pub returns-in-Sum : goal.returns-in-Sum
returns-in-Sum g c =
    IfOk-weaker {X = VecDeque _ Global} _ _ _ (λ v x. by_task _ _ _ _ _ _ _ _ _ _ _ c.in-Sum.is
    (λ r. sum_advances _ c.args.pending.now.tasks.items c.args.pending.now.plugs.items c.args.now.items v.items c.args.signals.now c.sums.new.signals
    c.in-Sum.to r (search rules)) c.requires) c.sums.ensures

pub returns-in-Before : goal.returns-in-Before
returns-in-Before g c =
    IfOk-weaker {X = VecDeque _ Global} _ _ _ (λ v x. by_task _ _ _ _ _ _ _ _ _ _ _ c.in-Before.is
    (before_advances _ c.args.pending.now.tasks.items c.args.pending.now.plugs.items c.args.now.items v.items c.in-Before.ins c.args.signals.now
    (search rules)) c.requires) c.joined-in-Before.ensures

pub returns-in_ok-outs-in-Close : goal.returns-in_ok-outs-in-Close
returns-in_ok-outs-in-Close g c =
    let o = c.in_ok-outs-in-Close.ensures in
    let q = c.close.new.self in
    let outs = c.from_vec.ensures.items in
    let ins = c.deref.ensures.value ∙ c.into_vec-outs.ensures.items in
    by_task _ _ _ _ _ _ _ _ _ _ _ c.in-Close.is
    (close_advances _ c.args.pending.now.tasks.items c.args.pending.now.plugs.items c.args.now.items c.from_vec.result.items c.args.signals.now q o.fed.0
    (ap (λ x. (x, q)) outs ∙ o.done ∙ ap (λ x. g.S.Signals.hooks.closed x c.args.signals.now) ins)
    (ap length outs ∙ o.width ∙ ap length ins) (subst (All (g.S.Signals.is_wire q)) (sym outs) o.wires) o.keeps o.fed.1) c.requires

pub returns-in-Unplug : goal.returns-in-Unplug
returns-in-Unplug g c = by_task _ _ _ _ _ _ _ _ _ _ _ c.in-Unplug.is
    (unplug_advances _ c.args.pending.now.tasks.items c.args.pending.now.plugs.items _ c.args.now.items c.args.signals.now c.pop_front.ensures.rest) c.requires
