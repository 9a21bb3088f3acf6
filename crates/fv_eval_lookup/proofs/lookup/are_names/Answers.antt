use Rattle.std.proofs.Common.{◌≡◌, ◌<◌, ◌∙◌, false, length, map, get_or, sym, ap, arith}
use Rattle.std.proofs.lemmas.List.{get_or-map, length-map}
use Rattle.fv_parse.specs.Trees.{tree_in}
use Rattle.fv_eval_lookup.specs.inner.Lookup.{is_name, are_names}
use Rattle.fv_eval_lookup.proofs.Lookups.{not_all_names}
use Rattle.fv_eval_lookup.proofs.lookup.are_names.Goals as goal

pub returns-then-not-is_name : goal.returns-then-not-is_name
returns-then-not-is_name c =
    let p = c.args.tree.now in
    let ids = c.items-items.result.now in
    let i = c.loop-id.id-index in
    let id = c.id-item.result in
    let lt : i < length ids = c.loop-id-test.true in
    let long : i < length (map (tree_in p) ids) = omega (arith, lt, length-map ids (tree_in p)) in
    let here : is_name (tree_in p id) ≡ false = cc in
    let at : is_name (get_or (map (tree_in p) ids) i (tree_in p id)) ≡ false =
    ap is_name (get_or-map (tree_in p) ids i id (tree_in p id) lt ∙ ap (tree_in p) (sym c.id-item.is)) ∙ here in
    sym (ap are_names (sym c.items-items.ensures.items) ∙ not_all_names (map (tree_in p) ids) i (tree_in p id) long at)
