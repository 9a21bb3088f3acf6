use Rattle.std.proofs.Common.{◌∙◌, ap, sym}
use Rattle.fv_eval_scopes.specs.Shows.{rules_in}
use Rattle.fv_eval_lookup.proofs.RuleNodes.{case_rules_are, functions_nodes, nodes_there}
use Rattle.fv_eval_lookup.proofs.lookup.Definitions.rules.Goals as goal

pub returns-in-Case-clause-rules : goal.returns-in-Case-clause-rules
returns-in-Case-clause-rules c =
    let p = c.args.self.now in
    case_rules_are c.tree.result.now p c.in-Case.id c.case_rules.result.now c.tree.ensures c.case_rules.ensures.rules ∙ ap (rules_in p) (sym c.in-Case.is)

pub returns-in-Definitions-clause-rules : goal.returns-in-Definitions-clause-rules
returns-in-Definitions-clause-rules c =
    let p = c.args.self.now in
    let are = c.functions.ensures.rules ∙ ap (rules_in p) (sym c.in-Definitions.is) in
    functions_nodes p c.functions.result.now (rules_in p c.args.ruled) are

pub returns-in-Definitions-clause-there : goal.returns-in-Definitions-clause-there
returns-in-Definitions-clause-there c = nodes_there c.args.self.now c.functions.result.now c.functions.ensures.there
