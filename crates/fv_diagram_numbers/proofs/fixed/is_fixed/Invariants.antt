use Rattle.std.proofs.Common.{reverse}
use Rattle.fv_diagram_numbers.specs.inner.Looks.{weight}
use Rattle.fv_diagram_numbers.proofs.Looking.{Waits}
use Rattle.fv_diagram_numbers.proofs.fixed.is_fixed.Given as goal

abbrev pub invariant-loop-look : goal.invariant-loop-look
invariant-loop-look l = Waits l.diagrams l.fn.root (reverse l.walk.looks.items) (reverse l.walk.bound.items)

abbrev pub decreases-loop-look : goal.decreases-loop-look
decreases-loop-look l = weight l.diagrams (reverse l.walk.looks.items)
