use Rattle.std.proofs.Common.{length, reverse}
use Rattle.fv_parse.specs.Trees.{Parsed}
use Rattle.fv_diagram.specs.Arena.{Arena}
use Rattle.fv_eval_patterns.specs.declared.value_patterns.Pair.{Pair}
use Rattle.fv_eval_patterns.specs.Trials.{AllMiss, Recalls}
use Rattle.fv_eval_patterns.proofs.long_patterns.note_misses.Given as goal

abbrev pub invariant-loop-task : goal.invariant-loop-task
invariant-loop-task l = (p : Parsed) (a : Arena) (whole : Pair) → Recalls p a l.fn.trials → AllMiss p a whole (reverse l.fn.tasks.items)
    → Recalls p a l.trials × AllMiss p a whole (reverse l.left.items)

abbrev pub decreases-loop-task : goal.decreases-loop-task
decreases-loop-task l = length l.left.items
