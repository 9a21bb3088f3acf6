use Rattle.fv_split.specs.inner.Bases.{AreKinds}
use Rattle.fv_split.proofs.kinds.kinds.Given as goal

abbrev pub invariant-loop-s : goal.invariant-loop-s
invariant-loop-s l = AreKinds l.bases l.lanes l.s l.kinds.items
