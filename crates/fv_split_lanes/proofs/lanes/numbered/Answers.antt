use Rattle.std.proofs.Common.{◌<◌, length, sym, subst, arith, All}
use Rattle.std.proofs.lemmas.List.{get_or_read}
use Rattle.fv_split_lanes.specs.inner.Ranks.{AreRanks}
use Rattle.fv_split_lanes.specs.inner.Numbered.{AreNumbered}
use Rattle.fv_split_lanes.proofs.PlaceLemmas.{link_row_links, row_components, numbers_within}
use Rattle.fv_split_lanes.proofs.lanes.numbered.Goals as goal

pub components-requires : goal.components-requires
components-requires c =
    link_row_links c.args.graph.now c.requires.graph c.in_ok-links.links c.in_ok-links.ensures

pub ranks-requires-clause-numbers : goal.ranks-requires-clause-numbers
ranks-requires-clause-numbers c =
    let g = c.args.graph.now in
    let numbers = c.in_ok-numbers.numbers.items in
    let found = row_components g c.in_ok-links.links numbers c.in_ok-links.ensures c.in_ok-numbers.ensures in
    subst (λ xs. All (λ k. k < length xs) xs) (sym c.deref.ensures.value)
    (subst (λ n. All (λ k. k < n) numbers) (sym found.long) (numbers_within numbers (length g.signals) found.long found.within))

pub returns : goal.returns
returns c =
    let g = c.args.graph.now in
    let marks = c.args.marks.now in
    let numbers = c.in_ok-numbers.numbers.items in
    let ranks = c.in_ok-ranks.ranks.items in
    let numbering = c.in_ok-numbering.numbering in
    let loops = c.index-loops.result.now in
    let found = row_components g c.in_ok-links.links numbers c.in_ok-links.ensures c.in_ok-numbers.ensures in
    let ranked = subst (λ xs. AreRanks xs marks ranks) c.deref.ensures.value c.in_ok-ranks.ensures in
    record {
      numbers = numbers;
      ranks = ranks;
      components = found;
      ranked = ranked;
      numbered = subst (λ xs. AreNumbered marks xs ranks numbering) c.deref-2.ensures.value
          (subst (λ xs. AreNumbered marks c.deref-2.result.now xs numbering) c.deref-3.ensures.value c.in_ok-numbering.ensures);
      counted = get_or_read ranks (length marks) loops (omega (arith, ranked.long, found.long, c.requires.marks)) c.index-loops.ensures 0;
    }
