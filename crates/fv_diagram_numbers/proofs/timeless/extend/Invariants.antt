use Rattle.fv_diagram_numbers.proofs.InPlace.{Extends}
use Rattle.fv_diagram_numbers.proofs.timeless.extend.Given as goal

abbrev pub invariant-loop : goal.invariant-loop
invariant-loop l = Extends l.counter l.fn.numbers.items l.numbers.items
