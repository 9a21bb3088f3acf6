use Rattle.std.proofs.Common.{◌≡◌, length}
use Rattle.fv_simplify.proofs.marks.reached.Given as goal

abbrev pub invariant-loop-s : goal.invariant-loop-s
invariant-loop-s l = (length l.marks.items ≡ length l.graph.signals)

abbrev pub invariant-loop : goal.invariant-loop
invariant-loop l = (length l.marks.items ≡ length l.graph.signals)
