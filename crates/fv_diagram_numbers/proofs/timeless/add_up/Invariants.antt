use Rattle.fv_diagram_numbers.proofs.InPlace.{AddedTo}
use Rattle.fv_diagram_numbers.proofs.timeless.add_up.Given as goal

abbrev pub invariant-loop-i : goal.invariant-loop-i
invariant-loop-i l = AddedTo l.at l.count l.many l.i l.fn.numbers l.numbers
