use Rattle.std.proofs.Common.{sym, subst}
use Rattle.fv_eval_patterns.specs.Surveyed.{Surveyed}
use Rattle.fv_eval_patterns.specs.Shapes.{IsShapeRow, IsSurvey}
use Rattle.fv_eval_patterns.proofs.Surveys.{steps_put}
use Rattle.fv_eval_patterns.proofs.survey.Survey.keep_step.Goals as goal

pub returns-in_err-put_step-clause-survey : goal.returns-in_err-put_step-clause-survey
returns-in_err-put_step-clause-survey c = λ p a h is.
    let s = c.self.inside in
    steps_put p a s.rows.items s.of_diagrams.items s.steps.items c.put_step.new.list.items c.slot-i.result c.args.step c.put_step.ensures
    (subst (IsSurvey p a) (sym c.self.view_is) h) (subst (λ (m : Surveyed). IsShapeRow p m.rows c.args.step) (sym c.self.view_is) is)

pub returns-clause-survey : goal.returns-clause-survey
returns-clause-survey c = λ p a h is.
    let s = c.self.inside in
    steps_put p a s.rows.items s.of_diagrams.items s.steps.items c.put_step.new.list.items c.slot-i.result c.args.step c.put_step.ensures
    (subst (IsSurvey p a) (sym c.self.view_is) h) (subst (λ (m : Surveyed). IsShapeRow p m.rows c.args.step) (sym c.self.view_is) is)
