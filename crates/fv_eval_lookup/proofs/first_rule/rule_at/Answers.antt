use Rattle.std.proofs.Common.{ap, sym, ◌∙◌, arith}
use Rattle.fv_parse.specs.Arena.{trees}
use Rattle.fv_parse.specs.Trees.{start_in}
use Rattle.fv_rules.specs.headline.Values.{Rule, rule_of}
use Rattle.fv_eval_lookup.proofs.RuleNodes.{other_rule}
use Rattle.fv_eval_lookup.proofs.first_rule.rule_at.Goals as goal

pub returns-in_default : goal.returns-in_default
returns-in_default c =
    let p = c.args.tree.now in
    let other = c.in_default in
    let e = ap rule_of c.node.ensures.tree
    ∙ other_rule (trees p.entries) c.node.result.now (start_in p c.args.id) other.not-Rule other.not-Function in
    record {
      patterns = sym (ap (λ (r : Rule). r.patterns) e);
      body = c.node.ensures.tree ∙ sym (ap (λ (r : Rule). r.body) e);
      patterns_there = λ k d l. absurd (omega (arith, l));
      body_there = c.requires;
    }
