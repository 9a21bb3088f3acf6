use Rattle.std.proofs.Common.{◌<◌, ℕ}
use Rattle.fv_signal.specs.Value.{ReadsOnly}
use Rattle.fv_simplify.specs.Nodes.{node}
use Rattle.fv_simplify.specs.Rebuilt.{IsMarked}
use Rattle.fv_simplify.proofs.marks.are_closed.Given as goal

abbrev pub invariant-loop-place : goal.invariant-loop-place
invariant-loop-place l = ((s : ℕ) → s < l.place → IsMarked l.marks s → ReadsOnly l.graph (IsMarked l.marks) (node l.graph s))
