use Rattle.std.proofs.Common.{ℕ, ◌<◌, length, map, sym, ap, ◌∙◌, subst, arith, All}
use Rattle.std.specs.Prelude.{Option, None, unwrap_or}
use Rattle.std.proofs.lemmas.List.{get_or_read}
use Rattle.std.proofs.lemmas.Result.{IfOk-weaker}
use Rattle.fv_split_plan.specs.Reach.{at}
use Rattle.fv_split_code.specs.Emits.{MeanNow, owned_by}
use Rattle.fv_split_code.proofs.ComputeLemmas.{computes_write, mapped_within}
use Rattle.fv_split_code.proofs.emit.Emitter.written.Goals as goal

pub operands-requires-clause-signals : goal.operands-requires-clause-signals
operands-requires-clause-signals c =
    let t = c.args.self.now.survey.now in
    let n = length c.args.self.now.registers.now in
    subst (All (λ s. s < n)) (sym (c.stood_three-signals.ensures.value ∙ ap (λ xs. map (at xs) c.args.args) c.deref.ensures.value))
    (mapped_within t.stands.items c.args.args n c.requires.survey.stands c.requires.args c.requires.survey.within)

pub returns : goal.returns
returns c = IfOk-weaker c.push.result _ _ (λ w h.
    let t = c.args.self.now.survey.now in
    let regs = c.args.self.now.registers.now in
    let s = c.args.s in
    let those = c.stood_three-signals.result in
    let old = c.args.code.now.items in
    let mid = c.operands.new.code.items in
    let found = c.in_ok-found.found in
    let has = get_or_read t.cells.items s c.index.result.now (omega (arith, c.requires.survey.cells, c.requires.signal)) c.index.ensures None in
    computes_write t regs c.args.self.now.own s old mid c.push.new.code.items c.args.table c.unwrap_or-cells.result c.args.args those found w
    (c.stood_three-signals.ensures.value ∙ ap (λ xs. map (at xs) c.args.args) c.deref.ensures.value) c.stood_three-signals.ensures.three
    (c.unwrap_or-cells.ensures ∙ ap (λ (o : Option ℕ). unwrap_or o 0) has)
    (subst (λ ks. MeanNow ks regs old mid those found (length those) (owned_by t.owners.items c.args.self.now.own)) c.deref-2.ensures.value
    (subst (λ os. MeanNow c.deref-2.result.now regs old mid those found (length those) (owned_by os c.args.self.now.own)) c.deref-3.ensures.value
    c.in_ok-found.ensures.1))
    h.1 h.0) c.push.ensures
