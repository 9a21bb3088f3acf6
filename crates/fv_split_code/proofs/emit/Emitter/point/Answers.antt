use Rattle.std.proofs.Common.{length, take, map, ◌∙◌, subst, ap}
use Rattle.std.proofs.lemmas.Result.{IfOk-weaker}
use Rattle.fv_split_plan.specs.Reach.{at}
use Rattle.fv_analysis.proofs.lemmas.RateLemmas.{at_most_four}
use Rattle.fv_split_code.specs.Emits.{MeanNow, owned_by}
use Rattle.fv_split_code.proofs.ComputeLemmas.{computes_point, stood_within, some_inputs}
use Rattle.fv_split_code.proofs.emit.Emitter.point.Goals as goal

pub operands-requires-clause-signals : goal.operands-requires-clause-signals
operands-requires-clause-signals c =
    let t = c.args.self.now.survey.now in
    let n = c.inputs-n.result in
    stood_within t.stands.items c.args.args (take n c.stood-signals.result) n (length c.args.self.now.registers.now)
    (ap (take n) (c.stood-signals.ensures.value ∙ ap (λ xs. map
    (at xs) c.args.args) c.deref.ensures.value)) c.requires.survey.stands c.requires.args c.requires.survey.within

pub returns : goal.returns
returns c = IfOk-weaker c.push.result _ _ (λ w h.
    let t = c.args.self.now.survey.now in
    let regs = c.args.self.now.registers.now in
    let n = c.inputs-n.result in
    let those = take n c.stood-signals.result in
    let old = c.args.code.now.items in
    let mid = c.operands.new.code.items in
    let found = c.in_ok-found.found in
    computes_point t regs c.args.self.now.own old mid c.push.new.code.items c.args.op c.args.args those found w
    (ap (take n) (c.stood-signals.ensures.value ∙ ap (λ xs. map (at xs) c.args.args) c.deref.ensures.value)
    ∙ ap (λ k. take k (map (at t.stands.items) c.args.args)) c.inputs-n.ensures)
    c.stood-signals.ensures.four c.in_ok-found.ensures.0 (at_most_four c.args.op) (some_inputs c.args.op)
    (subst (λ ks. MeanNow ks regs old mid those found (length those) (owned_by t.owners.items c.args.self.now.own)) c.deref-2.ensures.value
    (subst (λ os. MeanNow c.deref-2.result.now regs old mid those found (length those) (owned_by os c.args.self.now.own)) c.deref-3.ensures.value
    c.in_ok-found.ensures.1))
    h.1 h.0) c.push.ensures
