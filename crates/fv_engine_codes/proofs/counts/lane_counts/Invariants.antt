use Rattle.std.proofs.Common.{◌≡◌, ℕ, ◌<◌, ◌≤◌, length, slice_index_or, vec_len, vec_capacity}
use Rattle.fv_engine_codes.specs.declared.counts.LaneCount.{LaneCount}
use Rattle.fv_engine_codes.specs.Codes.{IsLaneCount}
use Rattle.fv_engine_codes.proofs.counts.lane_counts.Given as goal

abbrev pub invariant-loop-j : goal.invariant-loop-j
invariant-loop-j l = record {
  each : (i : ℕ) (d : LaneCount) → i < l.j → IsLaneCount l.plan l.tasks.tasks i (slice_index_or l.counts.items i d);
  count : vec_len l.counts ≡ l.j;
  room : l.plan.loops ≤ vec_capacity l.counts;
  long : vec_len l.places ≡ length l.plan.lanes;
}
