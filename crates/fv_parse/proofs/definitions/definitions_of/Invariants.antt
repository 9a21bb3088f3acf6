use Rattle.std.proofs.Common.{◌≡◌, length, map, take}
use Rattle.std.specs.List.{filter_map}
use Rattle.fv_parse.specs.Trees.{tree_in}
use Rattle.fv_parse.specs.headline.Definitions.{defined_by}
use Rattle.fv_parse.proofs.definitions.definitions_of.Given as goal

abbrev pub invariant-loop-item : goal.invariant-loop-item
invariant-loop-item l = l.list.items ≡ filter_map (defined_by (length l.tree.tokens.tokens)) (map (tree_in l.tree) (take l.item-index l.items))
