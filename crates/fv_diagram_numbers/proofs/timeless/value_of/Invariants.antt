use Rattle.std.proofs.Common.{reverse}
use Rattle.fv_diagram_numbers.specs.inner.Timeless.{weight}
use Rattle.fv_diagram_numbers.proofs.Waiting.{Waits}
use Rattle.fv_diagram_numbers.proofs.timeless.value_of.Given as goal

abbrev pub invariant-loop-task : goal.invariant-loop-task
invariant-loop-task l = Waits l.diagrams (reverse l.work.tasks.items) l.work.numbers.items l.fn.root

abbrev pub decreases-loop-task : goal.decreases-loop-task
decreases-loop-task l = weight l.diagrams (reverse l.work.tasks.items)
