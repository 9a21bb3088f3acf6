use Rattle.std.proofs.Common.{◌<◌, ℕ, get_or}
use Rattle.fv_simplify.specs.Rebuilt.{IsMarked}
use Rattle.fv_simplify.proofs.marks.all_are_marked.Given as goal

abbrev pub invariant-loop-s : goal.invariant-loop-s
invariant-loop-s l = ((k : ℕ) → k < l.s-index → IsMarked l.marks (get_or l.signals k 0))
