use Rattle.fv_eval_drawing.proofs.lemmas.Gathered.{sides_behind, sides_refused}
use Rattle.fv_eval_drawing.proofs.diagrams.Drawing.fill_behind.Goals as goal

pub returns-in_ok-with_one_behind-in-Ok-clause-sides : goal.returns-in_ok-with_one_behind-in-Ok-clause-sides
returns-in_ok-with_one_behind-in-Ok-clause-sides c =
    sides_behind c.args.self.now c.wires.new.self c.args.count c.in-Ok.wires c.args.parts.items c.in_ok-with_one_behind-in-Ok.field-0
    c.if-count-eq0.false c.in-Ok.ensures.adds c.in-Ok.ensures.wired c.requires c.in_ok-with_one_behind-in-Ok.ensures

pub returns-in-Err-clause-sides : goal.returns-in-Err-clause-sides
returns-in-Err-clause-sides c =
    sides_refused c.args.self.now c.wires.new.self c.args.count c.args.parts.items c.in-Err.refusal c.if-count-eq0.false c.in-Err.ensures.refused
