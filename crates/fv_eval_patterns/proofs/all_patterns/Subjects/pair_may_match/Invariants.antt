use Rattle.fv_eval_patterns.specs.Trials.{weights}
use Rattle.fv_eval_patterns.proofs.lemmas.LongPatterns.{Attempts}
use Rattle.fv_eval_patterns.proofs.all_patterns.Subjects.pair_may_match.Given as goal

abbrev pub invariant-loop-task : goal.invariant-loop-task
invariant-loop-task l = Attempts l.self.tree.now l.diagrams l.numbers l.trials l.fn.whole l.tasks.items

abbrev pub decreases-loop-task : goal.decreases-loop-task
decreases-loop-task l = weights l.diagrams l.tasks.items
