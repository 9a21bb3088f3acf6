use Rattle.std.proofs.Common.{◌≡◌}
use Rattle.fv_eval_patterns.specs.Loans.{loans_of}
use Rattle.fv_eval_patterns.specs.Trials.{Recalls}
use Rattle.fv_eval_patterns.proofs.lemmas.InOrder.{MatchesOn}
use Rattle.fv_eval_patterns.proofs.all_patterns.Subjects.bind_all.Given as goal

abbrev pub invariant-loop-i : goal.invariant-loop-i
invariant-loop-i l = record {
  matches : MatchesOn l.self.tree.now l.patterns l.values l.fn.matching.diagrams.now l.matching.diagrams.now l.matching.numbers.now l.i
      l.fn.found.items l.found.items;
  recalls : Recalls l.self.tree.now l.matching.diagrams.now l.matching.trials.now;
  loans : loans_of l.matching ≡ loans_of l.fn.matching;
}
