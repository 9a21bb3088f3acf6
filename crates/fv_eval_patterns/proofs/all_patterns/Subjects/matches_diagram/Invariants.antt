use Rattle.std.specs.List.{sum_by}
use Rattle.fv_diagram.specs.headline.Diagram.{size}
use Rattle.fv_diagram.specs.Arena.{tree_of}
use Rattle.fv_eval_patterns.specs.declared.value_patterns.Pair.{Pair}
use Rattle.fv_eval_patterns.specs.Patterns.{GoesOn}
use Rattle.fv_eval_patterns.proofs.all_patterns.Subjects.matches_diagram.Given as goal

abbrev pub invariant-loop-pair : goal.invariant-loop-pair
invariant-loop-pair l = GoesOn l.self.tree.now l.fn.diagrams l.diagrams l.numbers l.fn.whole l.pending.items l.fn.found.items l.found.items

abbrev pub decreases-loop-pair : goal.decreases-loop-pair
decreases-loop-pair l = sum_by (λ (x : Pair). size (tree_of l.fn.diagrams x.diagram)) l.pending.items
