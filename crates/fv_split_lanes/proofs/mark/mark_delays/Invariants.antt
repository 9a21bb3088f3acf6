use Rattle.fv_split_lanes.specs.inner.Marked.{Marks, ByOne, Delayed}
use Rattle.fv_split_lanes.proofs.mark.mark_delays.Given as goal

abbrev pub invariant-loop-k : goal.invariant-loop-k
invariant-loop-k l = Marks l.fn.marks.items l.marks.items (ByOne (Delayed l.graph l.stands) l.k)
