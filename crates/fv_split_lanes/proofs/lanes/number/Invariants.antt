use Rattle.fv_split_lanes.specs.inner.Numbered.{NumberedUpTo}
use Rattle.fv_split_lanes.proofs.lanes.number.Given as goal

abbrev pub invariant-loop-s : goal.invariant-loop-s
invariant-loop-s l = NumberedUpTo l.marks l.numbers l.ranks l.s l.numbering
