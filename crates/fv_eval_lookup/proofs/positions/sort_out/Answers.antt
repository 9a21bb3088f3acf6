use Rattle.std.proofs.Common.{◌∙◌, ◌+◌, List, ap, sym, subst}
use Rattle.fv_parse.specs.Trees.{tree_in}
use Rattle.fv_rules.specs.headline.Values.{Rule, rule_of}
use Rattle.fv_eval_lookup.specs.declared.wants.Wanted.{Wanted}
use Rattle.fv_eval_lookup.specs.Chosen.{nodes_of}
use Rattle.fv_eval_lookup.specs.Positions.{Sorts}
use Rattle.fv_eval_lookup.proofs.RuleNodes.{node_there, rules_at}
use Rattle.fv_eval_lookup.proofs.Wanting.{rule_here, sorts_free, sorts_more}
use Rattle.fv_eval_lookup.proofs.positions.sort_out.Goals.{in-None+in_ok-add-in-None, in-Some+in_ok-push-in-Some}
use Rattle.fv_eval_lookup.proofs.positions.sort_out.Goals as goal

pub want_at-requires : goal.want_at-requires
want_at-requires c =
    node_there c.args.tree.now (nodes_of c.args.rules) c.loop-i.i c.node-node.result c.requires c.node-node.ensures

pub loop-i-preserved : goal.loop-i-preserved
loop-i-preserved c =
    let p = c.args.tree.now in
    let ids = nodes_of c.args.rules in
    let rules : List Rule = rules_at p ids in
    let x = c.args.path.now in
    let i = c.loop-i.i in
    let r : Rule = rule_of (tree_in p c.node-node.result) in
    let here = rule_here p ids i c.node-node.result c.node-node.ensures in
    elim c.match-want_at.branch [
      | in-None+in_ok-add-in-None w ↦
          subst (λ bits. Sorts rules x (i + 1) bits c.match-want_at.wants.items) (sym w.free-is)
          (subst (λ (ws : List Wanted). Sorts rules x (i + 1) w.add.new.self ws) (sym (ap (λ v. v.items) w.wants-is))
          (sorts_free rules x i c.loop-i.free w.add.new.self c.loop-i.wants.items r c.loop-i.invariant here (sym c.want_at.ensures ∙ w.in-None.is)
          w.add.ensures.keeps w.in_ok-add-in-None.ensures.added))
      | in-Some+in_ok-push-in-Some w ↦
          subst (λ bits. Sorts rules x (i + 1) bits c.match-want_at.wants.items) (sym w.free-is)
          (subst (λ (ws : List Wanted). Sorts rules x (i + 1) c.loop-i.free ws) (sym (ap (λ v. v.items) w.wants-is))
          (sorts_more rules x i w.in-Some.key c.loop-i.free c.loop-i.wants.items w.push.new.self.items r c.loop-i.invariant here
          (sym c.want_at.ensures ∙ w.in-Some.is) w.in_ok-push-in-Some.ensures.items))
    ]
