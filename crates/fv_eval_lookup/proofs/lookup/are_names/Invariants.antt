use Rattle.std.proofs.Common.{◌≡◌, take, map, true}
use Rattle.std.specs.List.{list_all}
use Rattle.fv_parse.specs.Trees.{tree_in}
use Rattle.fv_eval_lookup.specs.inner.Lookup.{is_name}
use Rattle.fv_eval_lookup.proofs.lookup.are_names.Given as goal

abbrev pub invariant-loop-id : goal.invariant-loop-id
invariant-loop-id l = list_all is_name (map (tree_in l.tree) (take l.id-index l.items)) ≡ true
