use Rattle.std.proofs.Common.{◌≡◌, ◌∙◌, ◌-◌, List, length, rules, sym, ap, subst, take, drop}
use Rattle.std.specs.Prelude.{filter, nat_lt, nat_le}
use Rattle.std.specs.List.Sorted.{IsNonDecreasingBy}
use Rattle.std.proofs.lemmas.List.{take_rest}
use Rattle.std.proofs.lemmas.List.Sorted.{IsPartitionPoint-from_clause, IsPartitionedBy-ltb, IsPartitionedBy-leb, IsNonDecreasingBy-drop}
use Rattle.fv_eval_lookup.specs.declared.by_name.Defined.{Defined}
use Rattle.fv_eval_lookup.specs.ByName.{is_called}
use Rattle.fv_eval_lookup.proofs.Keyed.{keyed_from}
use Rattle.fv_eval_lookup.proofs.by_name.ByName.called.Goals as goal

pub returns : goal.returns
returns c =
    let name = c.args.name in
    let xs = c.as_slice-all.result.now in
    let a = c.partition_point-from.result in
    let n = c.partition_point-count.result in
    let ys = take (length xs - a) (drop a xs) in
    let rest : ys ≡ drop a xs = take_rest xs a in
    let Rises : List Defined → Type 0 = IsNonDecreasingBy (λ (d : Defined). d.name) in
    let up : Rises xs = subst Rises (sym c.as_slice-all.ensures.value) c.self.invariant in
    let up_rest : Rises ys = subst Rises (sym rest) (IsNonDecreasingBy-drop (λ (d : Defined). d.name) a xs up) in
    let low =
    IsPartitionPoint-from_clause (λ (d : Defined). nat_lt d.name name) xs a c.partition_point-from.ensures.partitioned
    (IsPartitionedBy-ltb (λ (d : Defined). d.name) xs name up) (λ x r q k. search rules) in
    let high =
    IsPartitionPoint-from_clause (λ (d : Defined). nat_le d.name name) ys n c.partition_point-count.ensures.partitioned
    (IsPartitionedBy-leb (λ (d : Defined). d.name) ys name up_rest) (λ x r q k. search rules) in
    ap (take n) rest ∙ sym (keyed_from (λ (d : Defined). d.name) name xs ys a n c.partition_point-from.ensures.bound rest
    c.partition_point-count.ensures.bound low high)
    ∙ ap (filter (is_called name)) (c.as_slice-all.ensures.value ∙ c.self.view_is)
