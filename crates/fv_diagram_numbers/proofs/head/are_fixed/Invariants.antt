use Rattle.std.proofs.Common.{◌≡◌, drop}
use Rattle.std.specs.List.{list_all}
use Rattle.fv_diagram_numbers.specs.headline.Heads.{is_fixed}
use Rattle.fv_diagram_numbers.specs.Lists.{trees_of}
use Rattle.fv_diagram_numbers.proofs.head.are_fixed.Given as goal

abbrev pub invariant-loop-part : goal.invariant-loop-part
invariant-loop-part l =
    list_all is_fixed (trees_of l.diagrams (drop l.part-index l.parts)) ≡ list_all is_fixed (trees_of l.diagrams l.parts)
