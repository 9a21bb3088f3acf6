use Rattle.std.proofs.Common.{◌≡◌, ◌<◌, drop}
use Rattle.fv_diagram.specs.Arena.{count_of, tree_of}
use Rattle.fv_diagram.specs.Composed.{IsComposed}
use Rattle.fv_eval_scopes.specs.Memo.{Remembers}
use Rattle.fv_eval_lookup.specs.Positions.{diagram_part}
use Rattle.fv_eval_lookup.proofs.paths.diagram_part.Given as goal

abbrev pub invariant-loop-side : goal.invariant-loop-side
invariant-loop-side l = record {
  there : l.at < count_of l.diagrams;
  composed : IsComposed (tree_of l.diagrams l.at);
  known : Remembers l.diagrams l.numbers;
  part : diagram_part (drop l.side-index l.sides) (tree_of l.diagrams l.at) ≡ diagram_part l.sides (tree_of l.diagrams l.fn.id);
}
