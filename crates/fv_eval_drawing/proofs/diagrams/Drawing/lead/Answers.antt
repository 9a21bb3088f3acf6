use Rattle.fv_diagram.specs.Arena.{tree_of}
use Rattle.fv_eval_drawing.specs.Makes.{trees_of}
use Rattle.fv_eval_drawing.proofs.lemmas.Gathered.{leads, leads_not}
use Rattle.fv_eval_drawing.proofs.diagrams.Drawing.lead.Goals as goal

pub returns-in-Ok-clause-makes : goal.returns-in-Ok-clause-makes
returns-in-Ok-clause-makes c =
    let a = c.args.self.now in
    let b = c.from_right.new.self in
    leads a b c.put.new.self (tree_of a.diagrams c.args.function) (tree_of b.diagrams c.args.function) c.in-Ok.all c.put.result
    (trees_of a.diagrams c.args.parts.items) c.in-Ok.ensures.makes (c.in-Ok.ensures.keeps.trees c.args.function c.requires.function)
    c.put.ensures.makes

pub returns-in-Err-clause-makes : goal.returns-in-Err-clause-makes
returns-in-Err-clause-makes c =
    let a = c.args.self.now in
    leads_not a c.from_right.new.self (tree_of a.diagrams c.args.function) c.in-Err.refusal (trees_of a.diagrams c.args.parts.items)
    c.in-Err.ensures.makes
