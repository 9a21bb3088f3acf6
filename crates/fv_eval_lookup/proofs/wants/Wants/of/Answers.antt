use Rattle.std.proofs.Common.{◌≡◌, ◌∙◌, ◌-◌, List, length, rules, sym, ap, subst, take, drop}
use Rattle.std.specs.Prelude.{filter, nat_lt, nat_le}
use Rattle.std.specs.List.Sorted.{IsNonDecreasingBy}
use Rattle.std.proofs.lemmas.List.{take_rest}
use Rattle.std.proofs.lemmas.List.Sorted.{IsPartitionPoint-from_clause, IsPartitionedBy-ltb, IsPartitionedBy-leb, IsNonDecreasingBy-drop}
use Rattle.fv_eval_lookup.specs.declared.wants.Wanted.{Wanted}
use Rattle.fv_eval_lookup.specs.Positions.{is_for}
use Rattle.fv_eval_lookup.proofs.Keyed.{keyed_from}
use Rattle.fv_eval_lookup.proofs.wants.Wants.of.Goals as goal

pub returns : goal.returns
returns c =
    let key = c.args.key in
    let xs = c.as_slice-all.result.now in
    let a = c.partition_point-from.result in
    let n = c.partition_point-count.result in
    let ys = take (length xs - a) (drop a xs) in
    let rest : ys ≡ drop a xs = take_rest xs a in
    let Rises : List Wanted → Type 0 = IsNonDecreasingBy (λ (w : Wanted). w.key) in
    let up : Rises xs = subst Rises (sym c.as_slice-all.ensures.value) c.self.invariant in
    let up_rest : Rises ys = subst Rises (sym rest) (IsNonDecreasingBy-drop (λ (w : Wanted). w.key) a xs up) in
    let low =
    IsPartitionPoint-from_clause (λ (w : Wanted). nat_lt w.key key) xs a c.partition_point-from.ensures.partitioned
    (IsPartitionedBy-ltb (λ (w : Wanted). w.key) xs key up) (λ x r q k. search rules) in
    let high =
    IsPartitionPoint-from_clause (λ (w : Wanted). nat_le w.key key) ys n c.partition_point-count.ensures.partitioned
    (IsPartitionedBy-leb (λ (w : Wanted). w.key) ys key up_rest) (λ x r q k. search rules) in
    ap (take n) rest ∙ sym (keyed_from (λ (w : Wanted). w.key) key xs ys a n c.partition_point-from.ensures.bound rest
    c.partition_point-count.ensures.bound low high)
    ∙ ap (filter (is_for key)) (c.as_slice-all.ensures.value ∙ c.self.view_is)
