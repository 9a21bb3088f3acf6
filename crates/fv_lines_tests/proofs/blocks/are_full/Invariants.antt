use Rattle.std.proofs.Common.{◌≡◌, ℕ, ◌<◌}
use Rattle.fv_lines.specs.Lanes.{lane_of}
use Rattle.fv_lines.specs.Solo.{lanes_of}
use Rattle.fv_lines_tests.proofs.blocks.are_full.Given as goal

abbrev pub invariant-loop-lane : goal.invariant-loop-lane
invariant-loop-lane l = (j : ℕ) → j < l.lane → (lane_of (lanes_of l.solo) j).room ≡ 0
