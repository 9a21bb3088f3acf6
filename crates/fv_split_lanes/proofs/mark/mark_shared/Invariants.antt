use Rattle.fv_split_lanes.specs.inner.Marked.{Marks, ByOne, Shared}
use Rattle.fv_split_lanes.proofs.mark.mark_shared.Given as goal

abbrev pub invariant-loop-k : goal.invariant-loop-k
invariant-loop-k l = Marks l.fn.marks.items l.marks.items (ByOne (Shared l.graph l.rates l.readers) l.k)
