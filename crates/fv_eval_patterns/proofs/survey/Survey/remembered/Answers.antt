use Rattle.std.proofs.Common.{subst}
use Rattle.fv_eval_patterns.specs.declared.shapes.Shape.{Shape}
use Rattle.fv_eval_patterns.specs.Shapes.{IsShapeRow}
use Rattle.fv_eval_patterns.proofs.survey.Survey.remembered.Goals as goal

pub returns-then-is_same_shape : goal.returns-then-is_same_shape
returns-then-is_same_shape c = λ p a h.
    let f = c.in_ok-step.step in
    subst (λ (s : Shape). IsShapeRow p c.args.self.now.rows (record { shape = s; row = f.row })) (c.is_same_shape.ensures c.if-is_same_shape.true)
    (h.steps c.slot.result f c.in_ok-step.ensures)
