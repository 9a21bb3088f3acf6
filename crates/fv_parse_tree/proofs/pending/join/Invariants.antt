use Rattle.std.proofs.Common.{length}
use Rattle.fv_parse_tree.specs.Arena.{tree_at, trees, lean}
use Rattle.fv_parse_tree.proofs.Progress.{Folds}
use Rattle.fv_parse_tree.proofs.pending.join.Given as goal

abbrev pub invariant-loop-part : goal.invariant-loop-part
invariant-loop-part l =
    Folds (trees l.fn.arena) (trees l.arena) l.pending.items l.tree (lean (trees l.fn.arena) l.initial.pending.items (tree_at (trees l.fn.arena) l.fn.last))

abbrev pub decreases-loop-part : goal.decreases-loop-part
decreases-loop-part l = length l.pending.items
