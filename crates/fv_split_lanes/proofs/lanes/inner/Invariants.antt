use Rattle.fv_split_lanes.specs.inner.Numbered.{AreInner}
use Rattle.fv_split_lanes.proofs.lanes.inner.Given as goal

abbrev pub invariant-loop-s : goal.invariant-loop-s
invariant-loop-s l = AreInner l.graph l.rates l.marks l.s l.inner.items
