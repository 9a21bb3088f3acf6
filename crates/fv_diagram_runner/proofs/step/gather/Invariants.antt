use Rattle.std.proofs.Common.{◌≡◌, take, map}
use Rattle.fv_num.specs.headline.Words.{argument}
use Rattle.fv_diagram_runner.proofs.step.gather.Given as goal

abbrev pub invariant-loop-i : goal.invariant-loop-i
invariant-loop-i l = take l.i l.to ≡ map (argument l.from) (take l.i l.places)
