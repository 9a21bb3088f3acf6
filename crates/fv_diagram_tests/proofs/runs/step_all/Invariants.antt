use Rattle.std.proofs.Common.{◌≡◌, ◌≤◌, length}
use Rattle.fv_diagram_tests.proofs.runs.step_all.Given as goal

abbrev pub invariant-frames : goal.invariant-frames
invariant-frames g l = (l.stepper.ins ≡ l.ins) × (length l.stepper.outs ≡ l.outs) × (l.stepper.controls ≤ 2)

abbrev pub decreases-frames : goal.decreases-frames
decreases-frames g l = length l.want
