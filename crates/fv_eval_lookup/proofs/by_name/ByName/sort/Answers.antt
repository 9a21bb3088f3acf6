use Rattle.std.proofs.Common.{rules}
use Rattle.std.proofs.lemmas.List.Sorted.{IsNonDecreasingBy-from_sort_by_key, answers_always}
use Rattle.fv_eval_lookup.specs.declared.by_name.Defined.{Defined}
use Rattle.fv_eval_lookup.proofs.Keyed.{same_keyed}
use Rattle.fv_eval_lookup.proofs.by_name.ByName.sort.Goals as goal

pub invariant_of-result : goal.invariant_of-result
invariant_of-result c = IsNonDecreasingBy-from_sort_by_key (λ (d : Defined). d.name) _ c.in_ok-sort_by_key.ensures.sorted (λ a r q k. search rules)

pub returns-clause-same : goal.returns-clause-same
returns-clause-same c = λ n.
    same_keyed (λ (d : Defined). d.name) (record { name = n; node = 0 }) _ _
    (c.in_ok-sort_by_key.ensures.stable (λ (d : Defined). d.name) (answers_always _ _ _ (λ f a r g h. search rules)))
