use Rattle.std.proofs.Common.{◌∙◌, map, sym, ap}
use Rattle.fv_parse_grammar.specs.headline.Tree.{items}
use Rattle.fv_parse_tree.specs.Arena.{trees}
use Rattle.fv_parse.specs.Trees.{tree_in, node_tree, start_in}
use Rattle.fv_parse.proofs.Nodes.{items_forest, items_form}
use Rattle.fv_parse.proofs.parsed.Tree.items.Goals as goal

pub returns-in-List-clause-items : goal.returns-in-List-clause-items
returns-in-List-clause-items c =
    let p = c.args.self.now in
    ap (map (tree_in p)) c.deref.ensures.value ∙ sym (items_forest (trees p.entries) c.in-List.ids.items)
    ∙ sym (ap items c.node.ensures.tree ∙ ap (λ node. items (node_tree p node (start_in p c.args.id))) c.in-List.is)

pub returns-in_default-clause-items : goal.returns-in_default-clause-items
returns-in_default-clause-items c =
    let p = c.args.self.now in
    sym (ap items c.node.ensures.tree ∙ items_form (trees p.entries) c.node.result.now (start_in p c.args.id) c.in_default.not-List)
