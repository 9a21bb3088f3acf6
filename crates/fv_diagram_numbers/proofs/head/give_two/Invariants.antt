use Rattle.std.proofs.Common.{◌≡◌, ◌+◌, drop}
use Rattle.fv_diagram_numbers.specs.headline.Heads.{all_outputs}
use Rattle.fv_diagram_numbers.specs.Lists.{trees_of}
use Rattle.fv_diagram_numbers.proofs.head.give_two.Given as goal

abbrev pub invariant-loop-part : goal.invariant-loop-part
invariant-loop-part l =
    all_outputs (trees_of l.diagrams l.parts) + l.left ≡ all_outputs (trees_of l.diagrams (drop l.part-index l.parts)) + 2
