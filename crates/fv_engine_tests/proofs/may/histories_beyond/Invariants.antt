use Rattle.std.proofs.Common.{ℕ, ◌<◌, ◌≤◌}
use Rattle.fv_base.specs.declared.limits.TheConstants.{DELAY_BUDGET}
use Rattle.fv_split_plan.specs.headline.View.{lane_info}
use Rattle.fv_engine_tests.proofs.may.histories_beyond.Given as goal

abbrev pub invariant-loop-i : goal.invariant-loop-i
invariant-loop-i l = (k : ℕ) → k < l.i → (lane_info l.plan k).history ≤ DELAY_BUDGET
