use Rattle.std.proofs.Common.{rules, subst, List}
use Rattle.std.specs.List.Sorted.{IsPermutation}
use Rattle.std.proofs.lemmas.List.Sorted.{IsPermutation-trans, IsNonDecreasingBy-from_sort_by_key, ties_still_rise, answers_always}
use Rattle.fv_outside.specs.declared.tasks.Reads.{Reads}
use Rattle.fv_graph.proofs.sorted.sorted.Goals as goal

pub returns-clause-permutation : goal.returns-clause-permutation
returns-clause-permutation c = IsPermutation-trans _ _ _
    (subst (λ (l : List Reads). IsPermutation l c.sort_by_key.new.self.items) c.in_ok-pairs.ensures.items c.sort_by_key.ensures.permutation)
    c.sort_by_key-2.ensures.permutation

pub returns-clause-readers : goal.returns-clause-readers
returns-clause-readers c = IsNonDecreasingBy-from_sort_by_key (λ (r : Reads). r.reader) _ c.in_ok-sort_by_key-2.ensures.sorted (λ a r q k. search rules)

pub returns-clause-sources : goal.returns-clause-sources
returns-clause-sources c = ties_still_rise (λ (r : Reads). r.source) (λ (r : Reads). r.reader) c.sort_by_key.new.self.items c.sort_by_key-2.new.self.items
    (c.in_ok-sort_by_key.ensures.sorted (λ (r : Reads). r.source) (answers_always _ _ _ (λ f a r q k. search rules)))
    (c.sort_by_key-2.ensures.stable (λ (r : Reads). r.reader) (answers_always _ _ _ (λ f a r q k. search rules)))
