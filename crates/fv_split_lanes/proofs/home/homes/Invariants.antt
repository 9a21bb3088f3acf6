use Rattle.std.proofs.Common.{◌≤◌, length}
use Rattle.fv_components.specs.Reach.{next_of}
use Rattle.fv_split_lanes.specs.inner.Homes.{bit_at, AreHomesFrom}
use Rattle.fv_split_lanes.proofs.home.homes.Given as goal

abbrev pub invariant-loop-s : goal.invariant-loop-s
invariant-loop-s l = record {
  few : l.s ≤ length l.owners;
  homes : AreHomesFrom (next_of l.reads) (bit_at l.inner) l.owners l.loops l.s l.homes.items;
}

abbrev pub decreases-loop-s : goal.decreases-loop-s
decreases-loop-s l = l.s
