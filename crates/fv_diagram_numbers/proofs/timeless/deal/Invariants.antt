use Rattle.fv_diagram_numbers.proofs.InPlace.{DealtTo}
use Rattle.fv_diagram_numbers.proofs.timeless.deal.Given as goal

abbrev pub invariant-loop-i : goal.invariant-loop-i
invariant-loop-i l = DealtTo l.at l.count l.i l.fn.numbers l.numbers
