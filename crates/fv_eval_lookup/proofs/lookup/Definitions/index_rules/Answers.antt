use Rattle.std.proofs.Common.{◌≡◌, IfSome, sym, subst}
use Rattle.fv_parse.specs.Trees.{Parsed}
use Rattle.fv_eval_lookup.specs.Chosen.{nodes_of}
use Rattle.fv_eval_lookup.specs.Indexes.{AreIndexes}
use Rattle.fv_eval_lookup.specs.Leaving.{IsIndex}
use Rattle.fv_eval_lookup.proofs.RuleNodes.{rules_at}
use Rattle.fv_eval_lookup.proofs.Wanting.{indexes_more}
use Rattle.fv_eval_lookup.proofs.lookup.Definitions.index_rules.Goals.{In_ok-push}
use Rattle.fv_eval_lookup.proofs.lookup.Definitions.index_rules.Goals as goal

-- there is one more
more : (c : In_ok-push) → AreIndexes c.self.inside.tree.now c.push.new.self.items
more c =
    let q : Parsed = c.self.inside.tree.now in
    let ids = nodes_of c.rules-rules.result in
    indexes_more c.args.self.now q c.self.inside.indexes.items c.push.new.self.items c.in-Some.index ids c.args.ruled.now c.self.view_is c.self.invariant.1
    (subst (λ o. IfSome o (IsIndex (rules_at q ids))) c.in-Some.is c.in_ok-index.ensures.index)
    (subst (λ o. IfSome o (λ x. x.ruled ≡ c.args.ruled.now)) c.in-Some.is c.in_ok-index.ensures.ruled) c.rules-rules.ensures.rules c.in_ok-push.ensures.items

pub invariant_of-self-then-i-len : goal.invariant_of-self-then-i-len
invariant_of-self-then-i-len c = (c.self.invariant.0, more (goal.at.invariant_of-self-then-i-len c).In_ok-push, c.self.invariant.2)

pub invariant_of-self-else-i-len : goal.invariant_of-self-else-i-len
invariant_of-self-else-i-len c = (c.self.invariant.0, more (goal.at.invariant_of-self-else-i-len c).In_ok-push, c.self.invariant.2)

pub invariant_of-self : goal.invariant_of-self
invariant_of-self c =
    (c.self.invariant.0, subst (AreIndexes c.self.inside.tree.now) (sym c.in_err-push.ensures.items) c.self.invariant.1, c.self.invariant.2)
