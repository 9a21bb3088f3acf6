use Rattle.fv_lines.specs.Solo.{IsSolo}
use Rattle.fv_lines_tests.proofs.blocks.append_each.Given as goal

abbrev pub invariant-loop-lane : goal.invariant-loop-lane
invariant-loop-lane g l = IsSolo l.solo
