use Rattle.std.proofs.Common.{ap, sym, ◌∙◌}
use Rattle.fv_parse.specs.Arena.{trees}
use Rattle.fv_parse.specs.Trees.{start_in}
use Rattle.fv_eval_scopes.specs.Shows.{case_in}
use Rattle.fv_eval_lookup.proofs.RuleNodes.{other_case}
use Rattle.fv_eval_lookup.proofs.first_rule.case_rules.Goals as goal

pub returns-in_default-clause-rules : goal.returns-in_default-clause-rules
returns-in_default-clause-rules c =
    let p = c.args.tree.now in
    sym (ap case_in c.node.ensures.tree ∙ other_case (trees p.entries) c.node.result.now (start_in p c.args.id) c.in_default.not-Case)
