use Rattle.std.proofs.Common.{◌≡◌, ℕ, ◌<◌, ◌≤◌, [], length, slice_index_or, vec_len, vec_capacity}
use Rattle.fv_engine_codes.specs.Plans.{IsLocalCode}
use Rattle.fv_engine_codes.proofs.codes.local_codes.Given as goal

abbrev pub invariant-loop-j : goal.invariant-loop-j
invariant-loop-j l = record {
  each : (i : ℕ) → i < l.j → IsLocalCode l.plan l.tasks.tasks i (slice_index_or l.codes.items i []);
  count : vec_len l.codes ≡ l.j;
  room : l.plan.loops ≤ vec_capacity l.codes;
  long : vec_len l.places ≡ length l.plan.lanes;
}
