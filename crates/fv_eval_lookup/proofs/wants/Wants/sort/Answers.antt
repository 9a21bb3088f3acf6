use Rattle.std.proofs.Common.{rules}
use Rattle.std.proofs.lemmas.List.Sorted.{IsNonDecreasingBy-from_sort_by_key, answers_always}
use Rattle.fv_eval_lookup.specs.declared.wants.Wanted.{Wanted}
use Rattle.fv_eval_lookup.proofs.Keyed.{same_keyed}
use Rattle.fv_eval_lookup.proofs.wants.Wants.sort.Goals as goal

pub invariant_of-result : goal.invariant_of-result
invariant_of-result c = IsNonDecreasingBy-from_sort_by_key (λ (w : Wanted). w.key) _ c.in_ok-sort_by_key.ensures.sorted (λ a r q k. search rules)

pub returns : goal.returns
returns c = λ n.
    same_keyed (λ (w : Wanted). w.key) (record { key = n; rule = 0 }) _ _
    (c.in_ok-sort_by_key.ensures.stable (λ (w : Wanted). w.key) (answers_always _ _ _ (λ f a r g h. search rules)))
