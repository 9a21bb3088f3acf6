use Rattle.std.proofs.Common.{subst, arith, refl}
use Rattle.std.specs.Prelude.{None}
use Rattle.std.proofs.lemmas.Result.{on_ok_weaker}
use Rattle.std.proofs.lemmas.List.{get_or_read}
use Rattle.fv_split_code.specs.Emitted.{OwnNow}
use Rattle.fv_split_code.proofs.lemmas.AddLemmas.{adds}
use Rattle.fv_split_code.proofs.emit.add.Goals as goal

pub returns : goal.returns
returns c = on_ok_weaker c.append.result (λ h.
    let t = c.args.survey.now in
    let old = c.args.code.now.items in
    let mid = c.own_step.new.code.items in
    let register = c.in_ok-register.register in
    adds t c.args.own c.args.s c.args.node c.args.registers.now.items _ old mid c.append.new.code.items register c.index.result.now
    (get_or_read t.lanes.items c.args.s c.index.result.now (omega (arith, c.requires.survey.lanes, c.requires.signal)) c.index.ensures None)
    (subst (λ rs. OwnNow t rs c.args.own c.args.s old mid c.args.node register) c.deref.ensures.value c.in_ok-register.ensures)
    refl h) c.append.ensures
