use Rattle.std.proofs.Common.{◌∙◌, ◌+◌, ◌≤◌, refl, true, false, Some, sym, subst, arith}
use Rattle.fv_eval_lookup.specs.Chosen.{Chooses, nodes_of}
use Rattle.fv_eval_scopes.proofs.lemmas.Added.{adds_on}
use Rattle.fv_eval_patterns.proofs.lemmas.InOrder.{all_valid}
use Rattle.fv_eval_lookup.proofs.RuleNodes.{node_there}
use Rattle.fv_eval_lookup.proofs.RulesChosen.{NextRule, next_at, rules_begin, rules_go_on, rules_skipped, rule_chosen, no_rule_chosen, tried_rule}
use Rattle.fv_eval_lookup.proofs.first_rule.first_match.Goals as goal

pub rules-init : goal.rules-init
rules-init c =
    let p = c.args.subjects.now.tree.now in
    let ids = nodes_of c.args.rules in
    let within = c.next_left-at.ensures.within (omega arith) in
    record {
      chooses = rules_skipped c.args.left.now 0 c.next_left-at.result
          (rules_begin p ids c.args.subjects.now.values.now c.args.matching.now.diagrams.now c.args.matching.now.numbers.now
          c.requires.known) c.requires.left (omega arith)
          (omega (arith, within, c.len-end.ensures)) c.next_left-at.ensures.skipped;
      recalls = c.requires.recalls;
      loans = refl;
      within = within;
    }

pub rule_at-rule-requires : goal.rule_at-rule-requires
rule_at-rule-requires c =
    node_there c.args.subjects.now.tree.now (nodes_of c.args.rules) c.rules.at c.node-id.result c.requires.inside c.node-id.ensures

pub rules-preserved : goal.rules-preserved
rules-preserved c =
    let p = c.args.subjects.now.tree.now in
    let ids = nodes_of c.args.rules in
    let us = c.args.subjects.now.values.now in
    let new = c.match_all.new in
    let at = c.rules.at in
    let next : NextRule p ids at c.node-id.result c.rule_at-rule.result =
    next_at ids at c.node-id.result c.rule_at-rule.result c.node-id.ensures c.rule_at-rule.ensures in
    let on = rules_go_on c.rules.invariant.chooses next
    (tried_rule p c.rule_at-rule.result us false _ c.rules.matching.diagrams.now new.matching.diagrams.now _ new.found.items c.if-branch.false
    c.new-list.ensures.items c.in_ok-match_all.ensures.adds c.in_ok-match_all.ensures.matched) c.in_ok-match_all.ensures.known in
    let more : at + 1 ≤ c.len-end.result = omega (arith, c.rules-test.true) in
    let within = c.next_left-at-in-rules.ensures.within more in
    record {
      chooses = rules_skipped c.args.left.now (at + 1) c.next_left-at-in-rules.result on c.requires.left (c.next_left-at-in-rules.ensures.from more)
          (omega (arith, within, c.len-end.ensures)) c.next_left-at-in-rules.ensures.skipped;
      recalls = c.in_ok-match_all.ensures.recalls;
      loans = c.in_ok-match_all.ensures.loans ∙ c.rules.invariant.loans;
      within = within;
    }

pub match_all-requires-clause-valid : goal.match_all-requires-clause-valid
match_all-requires-clause-valid c =
    all_valid c.args.matching.now.diagrams.now c.rules.matching.diagrams.now c.args.subjects.now.values.now c.rules.invariant.chooses.adds c.requires.valid

pub returns-in_err-match_all-clause-adds : goal.returns-in_err-match_all-clause-adds
returns-in_err-match_all-clause-adds c =
    adds_on c.args.matching.now.diagrams.now c.rules.matching.diagrams.now c.match_all.new.matching.diagrams.now
    c.rules.invariant.chooses.adds c.in_err-match_all.ensures.adds

pub returns-then-branch-clause-adds : goal.returns-then-branch-clause-adds
returns-then-branch-clause-adds c =
    adds_on c.args.matching.now.diagrams.now c.rules.matching.diagrams.now c.match_all.new.matching.diagrams.now
    c.rules.invariant.chooses.adds c.in_ok-match_all.ensures.adds

pub returns-then-branch-clause-chosen : goal.returns-then-branch-clause-chosen
returns-then-branch-clause-chosen c =
    let p = c.args.subjects.now.tree.now in
    let ids = nodes_of c.args.rules in
    let us = c.args.subjects.now.values.now in
    let new = c.match_all.new in
    let next : NextRule p ids c.rules.at c.node-id.result c.rule_at-rule.result =
    next_at ids c.rules.at c.node-id.result c.rule_at-rule.result c.node-id.ensures c.rule_at-rule.ensures in
    let try = tried_rule p c.rule_at-rule.result us true _ c.rules.matching.diagrams.now new.matching.diagrams.now _ new.found.items c.if-branch.true
    c.new-list.ensures.items c.in_ok-match_all.ensures.adds c.in_ok-match_all.ensures.matched in
    subst (λ bs. Chooses p ids us c.args.matching.now.diagrams.now new.matching.diagrams.now (Some (c.rule_at-rule.result.body, bs)))
    (sym c.of.ensures) (rule_chosen c.rules.invariant.chooses next try)

pub returns-clause-chosen : goal.returns-clause-chosen
returns-clause-chosen c = no_rule_chosen c.rules.invariant.chooses (omega (arith, c.rules-test.false, c.len-end.ensures))
