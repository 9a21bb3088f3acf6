use Rattle.std.proofs.Common.{◌≡◌, ◌+◌}
use Rattle.fv_num.specs.headline.Frames.{table}
use Rattle.fv_diagram_runner.proofs.draft.input_registers.Given as goal

abbrev pub invariant-loop-i : goal.invariant-loop-i
invariant-loop-i l = l.all.items ≡ table l.i (λ i. 1 + i)
