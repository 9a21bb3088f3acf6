use Rattle.fv_split_code.proofs.HoldLemmas.{AreHeld}
use Rattle.fv_split_code.proofs.held.held_code.Given as goal

abbrev pub invariant-loop-s : goal.invariant-loop-s
invariant-loop-s l = AreHeld l.graph l.s l.numbers.items l.steps.items
