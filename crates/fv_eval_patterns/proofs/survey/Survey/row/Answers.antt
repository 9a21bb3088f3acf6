use Rattle.std.proofs.Common.{arith}
use Rattle.fv_eval_patterns.proofs.Surveys.{whole_row}
use Rattle.fv_eval_patterns.proofs.survey.Survey.row.Goals as goal

pub returns : goal.returns
returns c =
    whole_row c.args.tree.now c.args.self.now.rows c.args.shape c.loop-i.i c.loop-i.row (omega (arith, c.loop-i-test.false, c.len-i-end.ensures))
    c.loop-i.invariant
