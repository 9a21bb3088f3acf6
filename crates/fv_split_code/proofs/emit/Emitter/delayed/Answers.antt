use Rattle.std.proofs.Common.{ℕ, length, ap, ◌∙◌}
use Rattle.std.specs.Prelude.{Option, unwrap_or}
use Rattle.std.proofs.lemmas.Result.{IfOk-weaker}
use Rattle.fv_split_plan.specs.Reach.{at}
use Rattle.fv_split_code.proofs.ComputeLemmas.{computes_delay, read_lane}
use Rattle.fv_split_code.proofs.emit.Emitter.delayed.Goals as goal

pub returns : goal.returns
returns c = IfOk-weaker c.push.result _ _ (λ w h.
    let t = c.args.self.now.survey.now in
    let regs = c.args.self.now.registers.now in
    let sources = c.stand-source.ensures ∙ ap (λ xs. at xs c.args.x) c.deref.ensures.value in
    let lane = c.unwrap_or-lane.ensures ∙ ap (λ (o : Option ℕ). unwrap_or o 0)
    (read_lane t (length regs) c.requires.survey c.args.x c.stand-source.result c.index.result.now c.requires.x sources c.index.ensures) in
    computes_delay t regs c.args.self.now.own c.args.code.now.items c.operand_of.new.code.items c.push.new.code.items c.args.x c.args.d c.args.max
    c.in_ok-back.back w c.unwrap_or-lane.result c.requires.max lane c.in_ok-back.ensures h.1 h.0) c.push.ensures
