use Rattle.fv_diagram_numbers.proofs.Parted.{CutSo}
use Rattle.fv_diagram_numbers.proofs.head.head_of.Given as goal

abbrev pub invariant-loop-i : goal.invariant-loop-i
invariant-loop-i l = CutSo l.diagrams l.parts l.i l.wanted
