use Rattle.std.proofs.Common.{reverse}
use Rattle.fv_diagram_numbers.proofs.Parted.{Parts, all_sizes}
use Rattle.fv_diagram_numbers.proofs.head.parts.Given as goal

abbrev pub invariant-loop-id : goal.invariant-loop-id
invariant-loop-id l = Parts l.diagrams l.fn.whole l.found.items (reverse l.waiting.items)

abbrev pub decreases-loop-id : goal.decreases-loop-id
decreases-loop-id l = all_sizes l.diagrams (reverse l.waiting.items)
