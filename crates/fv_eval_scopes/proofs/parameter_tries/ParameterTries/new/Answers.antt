use Rattle.std.proofs.Common.{IfSome, subst}
use Rattle.fv_eval_scopes.specs.ParameterTries.{IsTrieOf}
use Rattle.fv_eval_scopes.proofs.lemmas.NameTries.{tries_more}
use Rattle.fv_eval_scopes.proofs.parameter_tries.ParameterTries.new.Goals as goal

pub loop-i-preserved : goal.loop-i-preserved
loop-i-preserved c =
    let p = c.args.tree.now in
    let new = c.trie_of.new.tries in
    tries_more p c.loop-i.tries new c.loop-i.roots.items c.push.new.self.items c.loop-i.i c.in_ok-root.root c.in_ok-root.ensures.grown
    c.in_ok-push.ensures.items
    (λ r e. subst (λ k. IsTrieOf p new k r) c.new.ensures (subst (λ o. IfSome o (IsTrieOf p new c.new.result)) e c.in_ok-root.ensures.trie))
    c.loop-i.invariant
