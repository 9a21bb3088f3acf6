use Rattle.std.proofs.Common.{All}
use Rattle.fv_eval_scopes.specs.Memo.{Remembers}
use Rattle.fv_eval_patterns.specs.Shapes.{IsSurvey, IsThere}
use Rattle.fv_eval_patterns.proofs.survey.Survey.explore.Given as goal

abbrev pub invariant-visits : goal.invariant-visits
invariant-visits l = record {
  left : All (IsThere l.diagrams) l.left.items;
  known : Remembers l.diagrams l.numbers;
  survey : IsSurvey l.tree l.diagrams l.self;
}
