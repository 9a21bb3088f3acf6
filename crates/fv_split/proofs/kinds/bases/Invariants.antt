use Rattle.fv_split.specs.inner.Bases.{AreBases}
use Rattle.fv_split.proofs.kinds.bases.Given as goal

abbrev pub invariant-loop-s : goal.invariant-loop-s
invariant-loop-s l = AreBases l.graph l.stands l.rates l.lanes l.numbers l.s l.bases.items
