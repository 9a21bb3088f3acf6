use Rattle.std.proofs.Common.{arith, subst, ap, ◌≤◌, length}
use Rattle.fv_eval_patterns.proofs.Surveys.{marked_past}
use Rattle.fv_eval_patterns.proofs.survey.Survey.marks.Goals as goal

pub returns-else-i-len : goal.returns-else-i-len
returns-else-i-len c =
    let rows = c.self.inside.rows.items in
    let o = c.self.inside.rows.ok.0 in
    let l : length rows ≤ c.args.row = omega (arith, o, c.len.ensures, c.if-i-len.false) in
    marked_past c.args.self.now.rows c.args.row c.args.node (subst (λ us. length us ≤ c.args.row) (ap (λ s. s.rows) c.self.view_is) l)
