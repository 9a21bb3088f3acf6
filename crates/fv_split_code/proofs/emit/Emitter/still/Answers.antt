use Rattle.std.proofs.lemmas.Result.{IfOk-weaker}
use Rattle.fv_split_code.proofs.ComputeLemmas.{computes_still}
use Rattle.fv_split_code.proofs.emit.Emitter.still.Goals as goal

pub returns : goal.returns
returns c = IfOk-weaker c.push.result _ _ (λ w h.
    computes_still c.args.self.now.survey.now c.args.self.now.registers.now c.args.self.now.own c.args.code.now.items c.operand_of.new.code.items
    c.push.new.code.items c.args.x c.args.d c.in_ok-w.w w c.in_ok-w.ensures h.1 h.0) c.push.ensures
