use Rattle.std.proofs.Common.{List, length, sym, subst}
use Rattle.std.proofs.lemmas.List.{length-map}
use Rattle.fv_parse.specs.Trees.{tree_in}
use Rattle.fv_parse.specs.TreeId.{TreeId}
use Rattle.fv_rules.specs.headline.Values.{Rule, rule_of}
use Rattle.fv_eval_lookup.specs.Chosen.{nodes_of}
use Rattle.fv_eval_lookup.specs.Positions.{Sorts}
use Rattle.fv_eval_lookup.proofs.RuleNodes.{rules_at}
use Rattle.fv_eval_lookup.proofs.Wanting.{sorts_sorted}
use Rattle.fv_eval_lookup.proofs.positions.Position.new.Goals as goal

pub returns : goal.returns
returns c =
    let p = c.args.tree.now in
    let ids = nodes_of c.args.rules in
    let rules : List Rule = rules_at p ids in
    let free = c.sort_out.new.free in
    let sorts : Sorts rules c.args.path (length rules) free c.in_ok-found.found.items =
    subst (λ n. Sorts rules c.args.path n free c.in_ok-found.found.items) (sym (length-map ids (λ (i : TreeId). rule_of (tree_in p i))))
    c.in_ok-found.ensures in
    record {
      sorts = sorts_sorted rules c.args.path (length rules) free c.in_ok-found.found.items c.in_ok-wants.wants c.in_ok-wants.ensures sorts;
      rows = c.in_ok-rows.ensures;
    }
