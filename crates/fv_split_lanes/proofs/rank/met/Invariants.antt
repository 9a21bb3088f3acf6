use Rattle.fv_split_lanes.proofs.RankLemmas.{MetUpTo}
use Rattle.fv_split_lanes.proofs.rank.met.Given as goal

abbrev pub invariant-loop-s : goal.invariant-loop-s
invariant-loop-s l = MetUpTo l.numbers l.marked l.met.items l.s
