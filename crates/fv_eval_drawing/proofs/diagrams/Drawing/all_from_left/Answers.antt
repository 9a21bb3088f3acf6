use Rattle.std.proofs.Common.{sym, subst}
use Rattle.fv_eval_drawing.specs.Makes.{Makes, trees_of}
use Rattle.fv_eval_drawing.specs.Lists.{all_from_left}
use Rattle.fv_eval_drawing.proofs.diagrams.Drawing.all_from_left.Goals as goal

pub returns-in-Some-clause-makes : goal.returns-in-Some-clause-makes
returns-in-Some-clause-makes c =
    subst (λ is. Makes c.args.self.now c.from_left.new.self
    (all_from_left c.args.op (trees_of c.args.self.now.diagrams is)) c.from_left.result)
    (sym c.in-Some.ensures.cases.0)
    c.from_left.ensures.makes
