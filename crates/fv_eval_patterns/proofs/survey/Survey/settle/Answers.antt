use Rattle.std.proofs.Common.{List, ℕ, sym, subst}
use Rattle.fv_eval_patterns.specs.Shapes.{IsRowed}
use Rattle.fv_eval_patterns.proofs.Surveys.{new_step, step_rows}
use Rattle.fv_eval_patterns.proofs.survey.Survey.settle.Goals as goal

pub returns-in_err-keep_step : goal.returns-in_err-keep_step
returns-in_err-keep_step c = λ a h seen.
    let p = c.args.tree.now in
    let grows = c.in_ok-row.ensures.grows in
    c.in_err-keep_step.ensures.survey p a (c.in_ok-row.ensures.survey p a h)
    (new_step p c.args.self.now.rows c.keep_row.new.self.rows grows.0 c.args.shape c.in_ok-made.made c.in_ok-row.row grows.1 seen.within c.in_ok-row.ensures.row
    c.in_ok-made.ensures)

pub returns-in_err-assign-2 : goal.returns-in_err-assign-2
returns-in_err-assign-2 c = λ a h seen.
    let p = c.args.tree.now in
    let rows = c.args.self.now.rows in
    let now = c.keep_row.new.self.rows in
    let r = c.in_ok-row.row in
    let grows = c.in_ok-row.ensures.grows in
    let step = new_step p rows now grows.0 c.args.shape c.in_ok-made.made r grows.1 seen.within c.in_ok-row.ensures.row c.in_ok-made.ensures in
    c.in_err-assign-2.ensures p a (c.in_ok-keep_step.ensures.survey p a (c.in_ok-row.ensures.survey p a h) step)
    (subst (λ (us : List (List ℕ)). IsRowed p a us c.args.id r) (sym c.in_ok-keep_step.ensures.rows)
    (step_rows p a rows now grows.0 c.args.id c.args.shape r grows.1 seen step))

pub returns : goal.returns
returns c = λ a h seen.
    let p = c.args.tree.now in
    let rows = c.args.self.now.rows in
    let now = c.keep_row.new.self.rows in
    let r = c.in_ok-row.row in
    let grows = c.in_ok-row.ensures.grows in
    let step = new_step p rows now grows.0 c.args.shape c.in_ok-made.made r grows.1 seen.within c.in_ok-row.ensures.row c.in_ok-made.ensures in
    c.in_ok-assign-2.ensures p a (c.in_ok-keep_step.ensures.survey p a (c.in_ok-row.ensures.survey p a h) step)
    (subst (λ (us : List (List ℕ)). IsRowed p a us c.args.id r) (sym c.in_ok-keep_step.ensures.rows)
    (step_rows p a rows now grows.0 c.args.id c.args.shape r grows.1 seen step))
