use Rattle.fv_parse.specs.headline.Trees.{label_of}
use Rattle.fv_eval_drawing.specs.Controls.{info_of}
use Rattle.fv_eval.proofs.Controlled.{met_goes}
use Rattle.fv_eval.proofs.machine.Machine.control.Goals as goal

pub returns-in-Some : goal.returns-in-Some
returns-in-Some c =
    let p = c.args.tree.now in
    met_goes p c.args.self.now c.give_control.new.self c.give_control.result c.in-Some.number (info_of c.args.range.now (label_of p.tokens c.args.label))
    (c.in-Some.ensures p) (c.give_control.ensures p)
