use Rattle.std.proofs.Common.{◌≡◌, ◌≤◌, length, drop}
use Rattle.fv_parse_grammar.specs.headline.Tree.{End}
use Rattle.fv_parse_tree.specs.Arena.{trees, forest}
use Rattle.fv_parse.specs.headline.StaticErrors.{error_of}
use Rattle.fv_parse.proofs.static_errors.error_among.Given as goal

abbrev pub invariant-loop-i : goal.invariant-loop-i
invariant-loop-i l = record { within : l.i ≤ length l.ids; so_far : l.first ≡ error_of l.tree.tokens (forest (trees l.tree.entries) (drop l.i l.ids) End) }

abbrev pub decreases-loop-i : goal.decreases-loop-i
decreases-loop-i l = l.i
