use Rattle.fv_split_lanes.specs.inner.Marked.{Marks, ByOne, Written}
use Rattle.fv_split_lanes.proofs.mark.mark_written.Given as goal

abbrev pub invariant-loop-k : goal.invariant-loop-k
invariant-loop-k l = Marks l.fn.marks.items l.marks.items (ByOne (Written l.graph) l.k)
