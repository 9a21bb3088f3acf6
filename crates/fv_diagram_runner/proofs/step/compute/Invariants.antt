use Rattle.std.proofs.Common.{◌≡◌, take, drop, []}
use Rattle.fv_num.specs.headline.Words.{argument}
use Rattle.fv_diagram_runner.specs.History.{numbers_of}
use Rattle.fv_diagram_runner.specs.Steps.{registers}
use Rattle.fv_diagram_runner.proofs.step.compute.Given as goal

abbrev pub invariant-loop-i : goal.invariant-loop-i
invariant-loop-i l =
    registers (argument l.controls) (argument l.frame) (argument l.cells) (numbers_of l.lists) (take l.i l.registers) (drop l.i l.steps)
    ≡ registers (argument l.controls) (argument l.frame) (argument l.cells) (numbers_of l.lists) [] l.steps
