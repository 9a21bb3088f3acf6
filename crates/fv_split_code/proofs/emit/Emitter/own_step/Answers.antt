use Rattle.std.proofs.Common.{◌≡◌, subst, arith}
use Rattle.std.proofs.lemmas.List.{get_or_read}
use Rattle.std.proofs.lemmas.Result.{IfOk-weaker}
use Rattle.fv_split_code.specs.declared.kind.Kind.TheVariants as kind
use Rattle.fv_split_code.specs.Emits.{MeansNow, kind_of, owned_by}
use Rattle.fv_split_code.proofs.lemmas.AddLemmas.{own_other}
use Rattle.fv_split_code.proofs.emit.Emitter.own_step.Goals as goal

pub returns-in_default : goal.returns-in_default
returns-in_default c = IfOk-weaker c.operand.result _ _ (λ w h.
    let t = c.args.self.now.survey.now in
    let regs = c.args.self.now.registers.now in
    let s = c.args.s in
    let old = c.args.code.now.items in
    let new = c.operand.new.code.items in
    let base = c.index-base.result.now in
    let is : base ≡ kind_of t.bases.items s =
    get_or_read t.bases.items s base (omega (arith, c.requires.survey.bases, c.requires.signal)) c.index-base.ensures kind.Inner in
    own_other t regs c.args.self.now.own s old new c.args.node w base is c.in_default.not-Inner
    (subst (λ os. MeansNow regs old new s w base (owned_by os c.args.self.now.own)) c.deref.ensures.value h)) c.operand.ensures
