use Rattle.std.proofs.lemmas.Result.{IfOk-weaker}
use Rattle.fv_split_code.proofs.ComputeLemmas.{computes_read}
use Rattle.fv_split_code.proofs.emit.Emitter.read.Goals as goal

pub returns : goal.returns
returns c = IfOk-weaker c.push.result _ _ (λ w h.
    computes_read c.args.self.now.survey.now c.args.self.now.registers.now c.args.self.now.own c.args.code.now.items c.operand_of.new.code.items
    c.push.new.code.items c.args.table c.args.r c.in_ok-arg.arg w c.in_ok-arg.ensures h.1 h.0) c.push.ensures
