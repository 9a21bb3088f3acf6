use Rattle.std.proofs.Common.{◌≡◌, ◌-◌, length}
use Rattle.fv_engine_codes.specs.inner.Numbered.{AreNumbered}
use Rattle.fv_engine_codes.proofs.Prefixes.{so_far}
use Rattle.fv_engine_codes.proofs.numbers.number_lanes.Given as goal

abbrev pub invariant-loop-i : goal.invariant-loop-i
invariant-loop-i l = record {
  numbered : AreNumbered l.places (so_far l.plan l.tasks.tasks l.loop_no (l.i - 1));
  count : l.count ≡ length (so_far l.plan l.tasks.tasks l.loop_no (l.i - 1));
  long : length l.places ≡ length l.plan.lanes;
}
