use Rattle.fv_lines.specs.Solo.{IsSolo}
use Rattle.fv_lines_tests.proofs.blocks.play.Given as goal

abbrev pub invariant-loop-n : goal.invariant-loop-n
invariant-loop-n g l = IsSolo l.solo
