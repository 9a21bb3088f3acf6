use Rattle.std.proofs.Common.{◌<◌, length, sym, subst, arith, All}
use Rattle.std.proofs.lemmas.List.Elements.{All-from_get_or}
use Rattle.fv_signal.specs.headline.Value.{members}
use Rattle.fv_split_lanes.specs.inner.Marked.{Marks, ByOne, Named, Defined}
use Rattle.fv_split_lanes.proofs.MarkLemmas.{marks_more}
use Rattle.fv_split_lanes.proofs.mark.mark_groups.Goals as goal

pub mark_named-requires-clause-signals : goal.mark_named-requires-clause-signals
mark_named-requires-clause-signals c =
    let g = c.args.graph.now in
    let k = c.loop-k.k in
    let there : k < length g.groups = omega (arith, c.loop-k-test.true, c.groups-k-end.ensures) in
    subst (All (λ x. x < length c.args.stands.now)) (sym c.group.ensures)
    (All-from_get_or (λ x. x < length c.args.stands.now) (members g k) 0 (λ i l. omega (arith, c.requires.graph.defined k i there l, c.requires.stands)))

pub mark_named-requires-clause-within : goal.mark_named-requires-clause-within
mark_named-requires-clause-within c =
    subst (λ n. All (λ s. s < n) c.args.stands.now) (sym c.loop-k.invariant.long) c.requires.within

pub loop-k-preserved : goal.loop-k-preserved
loop-k-preserved c =
    let g = c.args.graph.now in
    let stands = c.args.stands.now in
    let mid = c.loop-k.marks.items in
    let new = c.mark_named.new.marks.items in
    marks_more (Defined g stands) c.loop-k.k c.args.marks.now.items mid new c.loop-k.invariant
    (subst (λ xs. Marks mid new (ByOne (Named stands xs) (length xs))) c.group.ensures c.mark_named.ensures)
