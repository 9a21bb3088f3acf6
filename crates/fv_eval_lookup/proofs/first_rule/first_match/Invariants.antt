use Rattle.std.proofs.Common.{◌≡◌, ◌-◌, ◌≤◌}
use Rattle.fv_eval_lookup.specs.Chosen.{nodes_of}
use Rattle.fv_eval_patterns.specs.Loans.{loans_of}
use Rattle.fv_eval_patterns.specs.Trials.{Recalls}
use Rattle.fv_eval_lookup.proofs.RulesChosen.{ChoosesOn}
use Rattle.fv_eval_lookup.proofs.first_rule.first_match.Given as goal

abbrev pub invariant-rules : goal.invariant-rules
invariant-rules l = record {
  chooses : ChoosesOn l.subjects.tree.now (nodes_of l.rules) l.subjects.values.now l.fn.matching.diagrams.now l.matching.diagrams.now
      l.matching.numbers.now l.at;
  recalls : Recalls l.subjects.tree.now l.matching.diagrams.now l.matching.trials.now;
  loans : loans_of l.matching ≡ loans_of l.fn.matching;
  within : l.at ≤ l.end;
}

abbrev pub decreases-rules : goal.decreases-rules
decreases-rules l = l.end - l.at
