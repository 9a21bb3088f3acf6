use Rattle.std.proofs.Common.{◌∙◌, ap, sym}
use Rattle.fv_parse.specs.TreeId.{TreeId}
use Rattle.fv_eval_lookup.specs.declared.by_name.Defined.{Defined}
use Rattle.fv_eval_scopes.specs.Shows.{rules_in}
use Rattle.fv_eval_lookup.proofs.RuleNodes.{first_is, case_rules_are, all_over}
use Rattle.fv_eval_lookup.proofs.lookup.Definitions.first_rule.Goals as goal

pub returns-in_ok-defined-in-Definitions : goal.returns-in_ok-defined-in-Definitions
returns-in_ok-defined-in-Definitions c =
    let p = c.args.self.now in
    let found = c.functions.result.now in
    let first = c.in_ok-defined-in-Definitions.defined.now in
    let are = c.functions.ensures.rules ∙ ap (rules_in p) (sym c.in-Definitions.is) in
    first_is p Defined (λ d. d.node) found first (rules_in p c.args.ruled) are c.functions.ensures.there c.in_ok-defined-in-Definitions.ensures.value

pub returns-in_ok-first-in-Case : goal.returns-in_ok-first-in-Case
returns-in_ok-first-in-Case c =
    let p = c.args.self.now in
    let t = c.tree.result.now in
    let xs = c.case_rules.result.now in
    let are = case_rules_are t p c.in-Case.id xs c.tree.ensures c.case_rules.ensures.rules ∙ ap (rules_in p) (sym c.in-Case.is) in
    let there = all_over t p xs c.tree.ensures c.case_rules.ensures.there in
    first_is p TreeId (λ i. i) xs c.in_ok-first-in-Case.first.now (rules_in p c.args.ruled) are there c.in_ok-first-in-Case.ensures.value
