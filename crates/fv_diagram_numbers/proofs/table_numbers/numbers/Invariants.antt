use Rattle.std.proofs.Common.{◌≡◌, length}
use Rattle.fv_diagram.specs.Arena.{tree_of}
use Rattle.fv_diagram_numbers.proofs.Numbered.{Ran}
use Rattle.fv_diagram_numbers.proofs.table_numbers.numbers.Given as goal

abbrev pub invariant-loop-i : goal.invariant-loop-i
invariant-loop-i l = record {
  ran : Ran l.stepper (tree_of l.diagrams l.fn.head) l.i l.numbers.items;
  out : length l.out ≡ 2;
}
