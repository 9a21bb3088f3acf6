use Rattle.std.proofs.Common.{◌≡◌, [], map, take}
use Rattle.std.specs.Prelude.{codes, filter}
use Rattle.fv_parse.specs.Trees.{tree_in}
use Rattle.fv_rules.specs.headline.Values.{is_of}
use Rattle.fv_eval.proofs.whole.process_name.Given as goal

abbrev pub invariant-searching : goal.invariant-searching
invariant-searching l = filter (is_of l.tree.tokens (codes "process")) (map (tree_in l.tree) (take l.id-index l.id-items)) ≡ []
