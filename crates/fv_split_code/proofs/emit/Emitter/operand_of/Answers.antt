use Rattle.std.proofs.Common.{length, ap, ◌∙◌, subst}
use Rattle.std.proofs.lemmas.Result.{IfOk-weaker}
use Rattle.fv_split_plan.specs.Reach.{at}
use Rattle.fv_split_code.specs.Emits.{MeansNow, kind_of, owned_by}
use Rattle.fv_split_code.proofs.ComputeLemmas.{read_kind}
use Rattle.fv_split_code.proofs.emit.Emitter.operand_of.Goals as goal

pub returns : goal.returns
returns c = IfOk-weaker c.operand.result _ _ (λ w h.
    let t = c.args.self.now.survey.now in
    let regs = c.args.self.now.registers.now in
    let old = c.args.code.now.items in
    let new = c.operand.new.code.items in
    let s = c.stand-s.result in
    let kind = c.index.result.now in
    let stands = c.stand-s.ensures ∙ ap (λ xs. at xs c.args.x) c.deref.ensures.value in
    let is = read_kind t (length regs) c.requires.survey c.args.x s kind c.requires.x stands c.index.ensures in
    subst (λ q. MeansNow regs old new q w (kind_of t.kinds.items q) (owned_by t.owners.items c.args.self.now.own)) stands
    (subst (λ k. MeansNow regs old new s w k (owned_by t.owners.items c.args.self.now.own)) is
    (subst (λ os. MeansNow regs old new s w kind (owned_by os c.args.self.now.own)) c.deref-2.ensures.value h))) c.operand.ensures
