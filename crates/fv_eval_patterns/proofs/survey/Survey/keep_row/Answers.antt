use Rattle.std.proofs.Common.{[], ◌∷◌, ◌++◌, sym, subst, ap, ◌∙◌, append-nil}
use Rattle.fv_eval_patterns.specs.Surveyed.{Surveyed}
use Rattle.fv_eval_patterns.specs.Shapes.{IsSurvey}
use Rattle.fv_eval_patterns.proofs.Surveys.{survey_more}
use Rattle.fv_eval_patterns.proofs.survey.Survey.keep_row.Goals as goal

pub returns-then-is_same-clause-grows : goal.returns-then-is_same-clause-grows
returns-then-is_same-clause-grows c = ([], ap (λ (s : Surveyed). s.rows) c.self.view_is ∙ sym (append-nil c.args.self.now.rows))

pub returns-in_err-put_number-clause-survey : goal.returns-in_err-put_number-clause-survey
returns-in_err-put_number-clause-survey c = λ p a h.
    let s : Surveyed = record { rows = c.self.inside.rows.items; steps = c.self.inside.steps.items; diagrams = c.self.inside.of_diagrams.items } in
    survey_more p a s c.push.new.self.items (c.args.row ∷ []) c.in_ok-push.ensures.items (subst (IsSurvey p a) (sym c.self.view_is) h)

pub returns-clause-survey : goal.returns-clause-survey
returns-clause-survey c = λ p a h.
    let s : Surveyed = record { rows = c.self.inside.rows.items; steps = c.self.inside.steps.items; diagrams = c.self.inside.of_diagrams.items } in
    survey_more p a s c.push.new.self.items (c.args.row ∷ []) c.in_ok-push.ensures.items (subst (IsSurvey p a) (sym c.self.view_is) h)

pub returns-in_err-put_number-clause-grows : goal.returns-in_err-put_number-clause-grows
returns-in_err-put_number-clause-grows c =
    (c.args.row ∷ [], c.in_ok-push.ensures.items ∙ ap (λ (s : Surveyed). s.rows ++ c.args.row ∷ []) c.self.view_is)

pub returns-clause-grows : goal.returns-clause-grows
returns-clause-grows c = (c.args.row ∷ [], c.in_ok-push.ensures.items ∙ ap (λ (s : Surveyed). s.rows ++ c.args.row ∷ []) c.self.view_is)
