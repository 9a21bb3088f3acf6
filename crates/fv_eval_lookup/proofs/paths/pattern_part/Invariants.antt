use Rattle.std.proofs.Common.{◌≡◌, ◌<◌, drop}
use Rattle.fv_parse.specs.Trees.{size_of, tree_in}
use Rattle.fv_eval_lookup.specs.Positions.{pattern_part}
use Rattle.fv_eval_lookup.proofs.paths.pattern_part.Given as goal

abbrev pub invariant-loop-side : goal.invariant-loop-side
invariant-loop-side l = record {
  there : l.at < size_of l.tree;
  part : pattern_part (drop l.side-index l.sides) (tree_in l.tree l.at) ≡ pattern_part l.sides (tree_in l.tree l.fn.pattern);
}
