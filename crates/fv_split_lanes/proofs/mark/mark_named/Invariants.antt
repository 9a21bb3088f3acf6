use Rattle.fv_split_lanes.specs.inner.Marked.{Marks, ByOne, Named}
use Rattle.fv_split_lanes.proofs.mark.mark_named.Given as goal

abbrev pub invariant-loop-k : goal.invariant-loop-k
invariant-loop-k l = Marks l.fn.marks.items l.marks.items (ByOne (Named l.stands l.signals) l.k)
