use Rattle.std.proofs.Common.{◌≡◌, ◌++◌}
use Rattle.std.specs.List.{flat_map}
use Rattle.fv_parse_tree.specs.Arena.{trees}
use Rattle.fv_parse.specs.headline.Trees.{AllBelow}
use Rattle.fv_parse.specs.Trees.{size_of, tree_in}
use Rattle.fv_parse.specs.headline.Definitions.{names_in}
use Rattle.fv_parse.proofs.Visiting.{left, weight}
use Rattle.fv_parse.proofs.definitions.names_in.Given as goal

abbrev pub invariant-loop-next : goal.invariant-loop-next
invariant-loop-next l = record {
  inside : AllBelow (size_of l.tree) l.stack.items;
  so_far : l.names.items ++ flat_map names_in (left (trees l.tree.entries) l.stack.items) ≡ names_in (tree_in l.tree l.fn.id);
}

abbrev pub decreases-loop-next : goal.decreases-loop-next
decreases-loop-next l = weight (trees l.tree.entries) l.stack.items
