use Rattle.std.proofs.Common.{◌≡◌, ◌<◌, [], length, sym, ap, ◌∙◌, subst, arith, All, false}
use Rattle.std.proofs.lemmas.List.Elements.{All-from_get_or}
use Rattle.fv_signal.specs.headline.Value.{Graph}
use Rattle.fv_signal.specs.headline.Rates.{rate_in, rate_at, rates}
use Rattle.fv_signal.proofs.lemmas.Grown.{length_grown}
use Rattle.fv_analysis.proofs.lemmas.StandLemmas.{stands_long}
use Rattle.fv_split_lanes.specs.inner.Homes.{bit_at}
use Rattle.fv_split_lanes.specs.inner.Marked.{Marks, ByOne, Named}
use Rattle.fv_split_lanes.proofs.lemmas.RowLemmas.{each_same}
use Rattle.fv_split_lanes.proofs.MarkLemmas.{are_marked}
use Rattle.fv_split_lanes.proofs.mark.separated.Goals as goal

rates_long : (g : Graph) → length (rates g.signals) ≡ length g.signals
rates_long g = omega (arith, length_grown (λ now. rate_in (rate_at now)) [] g.signals)

pub mark_named-requires-clause-signals : goal.mark_named-requires-clause-signals
mark_named-requires-clause-signals c =
    let g = c.args.graph.now in
    let stands = c.args.stands.now in
    let long = ap length c.requires.stands ∙ stands_long g in
    subst (All (λ x. x < length stands)) (sym c.outputs.ensures.list)
    (All-from_get_or (λ x. x < length stands) g.outputs 0 (λ i m. let o = c.requires.graph.outputs i m in omega (arith, o, long)))

pub mark_delays-requires-clause-stands : goal.mark_delays-requires-clause-stands
mark_delays-requires-clause-stands c = ap length c.requires.stands ∙ stands_long c.args.graph.now

pub mark_groups-requires-clause-stands : goal.mark_groups-requires-clause-stands
mark_groups-requires-clause-stands c = ap length c.requires.stands ∙ stands_long c.args.graph.now

pub mark_shared-requires-clause-rates : goal.mark_shared-requires-clause-rates
mark_shared-requires-clause-rates c = ap length c.requires.rates ∙ rates_long c.args.graph.now

pub returns : goal.returns
returns c =
    let g = c.args.graph.now in
    let stands = c.args.stands.now in
    let begun = c.in_ok-marks.marks.items in
    let named = c.mark_named.new.marks.items in
    let blank = c.in_ok-marks.ensures.items_if_clones_equal (λ y e. e) in
    are_marked g c.requires.graph stands c.args.rates.now c.args.readers.now
    begun named c.mark_delays.new.marks.items c.mark_groups.new.marks.items c.mark_shared.new.marks.items c.mark_written.new.marks.items
    c.requires.stands c.requires.rates c.requires.readers (omega (arith, c.in_ok-marks.marks.ok.0, c.in_ok-marks.ensures.len, c.len.ensures))
    (λ s. ap (λ bs. bit_at bs s) blank ∙ each_same c.len.result s false)
    (subst (λ xs. Marks begun named (ByOne (Named stands xs)
    (length xs))) c.outputs.ensures.list c.mark_named.ensures) c.mark_delays.ensures c.mark_groups.ensures c.mark_shared.ensures c.mark_written.ensures
