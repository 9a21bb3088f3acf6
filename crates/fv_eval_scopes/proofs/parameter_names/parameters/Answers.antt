use Rattle.std.proofs.Common.{◌≡◌, ◌<◌, length, ap, ◌∙◌, arith}
use Rattle.fv_parse_grammar.specs.headline.Tree.{Tree, items}
use Rattle.fv_parse.specs.Arena.{trees}
use Rattle.fv_parse.specs.TreeNode.TheVariants as nodes
use Rattle.fv_parse.specs.Trees.{tree_in, start_in}
use Rattle.fv_eval_scopes.specs.Shows.{parameters_in}
use Rattle.fv_eval_scopes.proofs.lemmas.Binders.{at_node}
use Rattle.fv_eval_scopes.proofs.lemmas.Binders.{no_parameters}
use Rattle.fv_eval_scopes.proofs.lemmas.Binders.{parameter_count}
use Rattle.fv_eval_scopes.proofs.parameter_names.parameters.Goals as goal

pub returns-in-Function : goal.returns-in-Function
returns-in-Function c =
    let p = c.args.tree.now in
    let n = c.in-Function in
    at_node p c.args.id (start_in p c.args.id) c.node.result.now (nodes.Function n.field-0 n.patterns n.field-2)
    (λ (t : Tree). 0 < length (parameters_in p.tokens t) → length c.items.result.now ≡ length (parameters_in p.tokens t)) c.node.ensures.tree n.is
    (parameter_count p.tokens (items (tree_in p n.patterns)) (tree_in p) c.items.result.now c.items.ensures.items)

pub returns-in_default : goal.returns-in_default
returns-in_default c =
    let p = c.args.tree.now in
    let e = ap (parameters_in p.tokens) c.node.ensures.tree
    ∙ no_parameters p.tokens (trees p.entries) c.node.result.now _ c.in_default.not-Abstraction c.in_default.not-Function in
    λ h. absurd (omega (arith, h, ap length e))
