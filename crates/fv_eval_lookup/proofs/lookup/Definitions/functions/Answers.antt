use Rattle.std.proofs.Common.{sym, subst}
use Rattle.fv_parse.specs.Arena.{trees}
use Rattle.fv_parse.specs.Trees.{Parsed, tree_in, start_in}
use Rattle.fv_eval_scopes.specs.Shows.{IsFunction}
use Rattle.fv_eval_lookup.proofs.RuleNodes.{functions_are, not_a_function}
use Rattle.fv_eval_patterns.proofs.lemmas.Matched.{node_is}
use Rattle.fv_eval_lookup.proofs.lookup.Definitions.functions.Goals as goal

pub returns-in-Function-clause-rules : goal.returns-in-Function-clause-rules
returns-in-Function-clause-rules c =
    let t = c.tree-tree.result.now in
    let first = c.args.first in
    functions_are t c.args.self.now c.args.list first c.in-Function.name (start_in t first) c.name.result _ _ c.called.result.now c.tree-tree.ensures
    (node_is t first c.node.ensures.tree c.in-Function.is) (c.called.ensures.found c.requires.0) c.name.ensures

pub returns-in_default : goal.returns-in_default
returns-in_default c =
    let t = c.tree-tree.result.now in
    absurd (not_a_function (trees t.entries) c.node.result.now (start_in t c.args.first) c.in_default.not-Function
    (subst IsFunction c.node.ensures.tree (subst (λ (r : Parsed). IsFunction (tree_in r c.args.first)) (sym c.tree-tree.ensures) c.requires.2)))
