use Rattle.std.proofs.Common.{List, Some}
use Rattle.fv_eval_scopes.specs.Memo.{Remembers}
use Rattle.fv_rules.specs.headline.Values.{Rule}
use Rattle.fv_eval_lookup.specs.Leaving.{IsIndex, Leaves}
use Rattle.fv_eval_lookup.proofs.index.RuleIndex.left.Given as goal

abbrev pub invariant-loop-position : goal.invariant-loop-position
invariant-loop-position l = record {
  known : Remembers l.diagrams l.numbers;
  left : (rules : List Rule) → IsIndex rules l.self → Leaves rules l.subjects.values.now l.diagrams (Some l.left);
}
