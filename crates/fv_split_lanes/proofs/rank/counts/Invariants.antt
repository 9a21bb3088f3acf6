use Rattle.fv_split_lanes.proofs.RankLemmas.{CountedTo}
use Rattle.fv_split_lanes.proofs.rank.counts.Given as goal

abbrev pub invariant-loop-i : goal.invariant-loop-i
invariant-loop-i l = CountedTo l.bits l.counts.items l.count l.i
