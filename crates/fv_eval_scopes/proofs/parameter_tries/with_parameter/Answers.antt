use Rattle.std.proofs.Common.{Some, subst}
use Rattle.fv_eval_scopes.specs.Parameters.{ShowsName}
use Rattle.fv_eval_scopes.proofs.lemmas.NameTries.{trie_more, trie_passes}
use Rattle.fv_eval_scopes.proofs.parameter_tries.with_parameter.Goals as goal

pub returns-in-None-clause-trie : goal.returns-in-None-clause-trie
returns-in-None-clause-trie c = λ p node i e shows h.
    trie_passes p c.args.tries.now node i c.args.end c.args.root e (λ x at. subst (λ o. ShowsName p.tokens o (Some x)) c.in-None.is (shows x at)) h

pub returns-in_ok-with_it-in-Some-clause-trie : goal.returns-in_ok-with_it-in-Some-clause-trie
returns-in_ok-with_it-in-Some-clause-trie c = λ p node i e shows h.
    let with_it = c.in_ok-with_it-in-Some in
    trie_more p c.args.tries.now c.with.new.self node i c.args.end c.in-Some.n c.args.root with_it.with_it e
    (λ x at. subst (λ o. ShowsName p.tokens o (Some x)) c.in-Some.is (shows x at)) h (with_it.ensures.with h.there)
