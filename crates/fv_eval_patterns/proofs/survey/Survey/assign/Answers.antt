use Rattle.std.proofs.Common.{sym, subst}
use Rattle.fv_eval_patterns.specs.Surveyed.{Surveyed}
use Rattle.fv_eval_patterns.specs.Shapes.{IsRowed, IsSurvey}
use Rattle.fv_eval_patterns.proofs.Surveys.{diagrams_put}
use Rattle.fv_eval_patterns.proofs.survey.Survey.assign.Goals as goal

pub returns-in_err-put_row : goal.returns-in_err-put_row
returns-in_err-put_row c = λ p a h is.
    let s = c.self.inside in
    diagrams_put p a s.rows.items s.steps.items s.of_diagrams.items c.put_row.new.list.items c.number.result c.args.row c.put_row.ensures
    (subst (IsSurvey p a) (sym c.self.view_is) h)
    (subst (λ i. IsRowed p a s.rows.items i c.args.row) (sym c.number.ensures)
    (subst (λ (m : Surveyed). IsRowed p a m.rows c.args.id c.args.row) (sym c.self.view_is) is))

pub returns : goal.returns
returns c = λ p a h is.
    let s = c.self.inside in
    diagrams_put p a s.rows.items s.steps.items s.of_diagrams.items c.put_row.new.list.items c.number.result c.args.row c.put_row.ensures
    (subst (IsSurvey p a) (sym c.self.view_is) h)
    (subst (λ i. IsRowed p a s.rows.items i c.args.row) (sym c.number.ensures)
    (subst (λ (m : Surveyed). IsRowed p a m.rows c.args.id c.args.row) (sym c.self.view_is) is))
