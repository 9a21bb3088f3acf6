use Rattle.std.proofs.Common.{◌<◌, length, None, ap, ◌∙◌, arith}
use Rattle.std.specs.Prelude.{slice_get}
use Rattle.std.proofs.lemmas.Option.{slice_get_past}
use Rattle.fv_parse_grammar.specs.headline.Tree.{Tree, items}
use Rattle.fv_parse.specs.Arena.{trees}
use Rattle.fv_parse.specs.TreeNode.TheVariants as nodes
use Rattle.fv_parse.specs.Trees.{tree_in, start_in}
use Rattle.fv_eval_scopes.specs.Shows.{parameters_in}
use Rattle.fv_eval_scopes.specs.Parameters.{ShowsName}
use Rattle.fv_eval_scopes.proofs.lemmas.Binders.{at_node}
use Rattle.fv_eval_scopes.proofs.lemmas.Binders.{no_parameters}
use Rattle.fv_eval_scopes.proofs.lemmas.Binders.{get_within}
use Rattle.fv_eval_scopes.proofs.lemmas.Binders.{parameter_named, parameter_none}
use Rattle.fv_eval_scopes.proofs.parameter_names.parameter.Goals as goal

pub returns-in-Some-get : goal.returns-in-Some-get
returns-in-Some-get c =
    let p = c.args.tree.now in
    let l = p.tokens in
    let i = c.args.i in
    let ids = c.items.result.now in
    let n = c.in-Function in
    let g = get_within ids i c.in-Some-get.pattern.now c.in-Some-get.ensures.lookup.3.0 c.in-Some-get.ensures.lookup.1 in
    at_node p c.args.id (start_in p c.args.id) c.node.result.now (nodes.Function n.field-0 n.patterns n.field-2)
    (λ (t : Tree). 0 < length (parameters_in l t) → ShowsName l c.named.result (slice_get (parameters_in l t) i)) c.node.ensures.tree n.is
    (parameter_named l (items (tree_in p n.patterns)) (tree_in p) ids i c.in-Some-get.pattern.now c.named.result c.items.ensures.items g c.named.ensures)

pub returns-in-None-get : goal.returns-in-None-get
returns-in-None-get c =
    let p = c.args.tree.now in
    let l = p.tokens in
    let i = c.args.i in
    let ids = c.items.result.now in
    let n = c.in-Function in
    let g = slice_get_past ids i c.in-None-get.ensures.lookup.3 in
    at_node p c.args.id (start_in p c.args.id) c.node.result.now (nodes.Function n.field-0 n.patterns n.field-2)
    (λ (t : Tree). 0 < length (parameters_in l t) → ShowsName l None (slice_get (parameters_in l t) i)) c.node.ensures.tree n.is
    (parameter_none l (items (tree_in p n.patterns)) (tree_in p) ids i c.items.ensures.items g)

pub returns-in_default : goal.returns-in_default
returns-in_default c =
    let p = c.args.tree.now in
    let e = ap (parameters_in p.tokens) c.node.ensures.tree
    ∙ no_parameters p.tokens (trees p.entries) c.node.result.now _ c.in_default.not-Abstraction c.in_default.not-Function in
    λ h. absurd (omega (arith, h, ap length e))
