use Rattle.std.proofs.Common.{◌≡◌, ◌+◌, ◌<◌, ◌≤◌, ℕ, length, get_or, vec_capacity}
use Rattle.fv_split_plan.specs.declared.lane.LaneInfo.{LaneInfo}
use Rattle.fv_engine_crew.specs.Entries.{AreLoopsLanes}
use Rattle.fv_engine_crew.proofs.Returns.{AreBack}
use Rattle.fv_engine_crew.proofs.returned_lanes.all_writers.Given as goal

abbrev pub invariant-loop-info : goal.invariant-loop-info
invariant-loop-info l = record {
  lanes : (i : ℕ) (d : LaneInfo) → i < length l.info-iterator.iter.rest.now → get_or l.info-iterator.iter.rest.now i d ≡ get_or l.start.plan.now.lanes i d;
  count : length l.writers.items ≡ length l.fn.writers.items;
  taken : length l.info-iterator.iter.rest.now + length l.all.items ≡ length l.start.plan.now.lanes;
  room : length l.start.plan.now.lanes ≤ vec_capacity l.all;
  back : (v : ℕ) → AreLoopsLanes l.start v l.fn.writers.items → AreBack l.start v (length l.info-iterator.iter.rest.now) l.writers.items l.all.items;
}
