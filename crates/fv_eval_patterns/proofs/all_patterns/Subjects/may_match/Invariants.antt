use Rattle.fv_eval_scopes.specs.Memo.{Remembers}
use Rattle.fv_eval_patterns.specs.Trials.{Recalls}
use Rattle.fv_eval_patterns.proofs.all_patterns.Subjects.may_match.Given as goal

abbrev pub invariant-loop-i : goal.invariant-loop-i
invariant-loop-i l = record { known : Remembers l.diagrams l.numbers; recalls : Recalls l.self.tree.now l.diagrams l.trials }
