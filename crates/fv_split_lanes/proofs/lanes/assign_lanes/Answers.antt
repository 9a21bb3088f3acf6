use Rattle.std.proofs.Common.{[], length, sym, ap, ◌∙◌, subst, arith}
use Rattle.fv_signal.specs.headline.Rates.{rate_in, rate_at}
use Rattle.fv_signal.proofs.lemmas.Grown.{length_grown}
use Rattle.fv_components.specs.headline.Reach.{at}
use Rattle.fv_components.specs.Reach.{next_of}
use Rattle.fv_split_lanes.specs.inner.Rows.{reads_of}
use Rattle.fv_split_lanes.specs.inner.Homes.{bit_at, AreLower, AreSingle, AreHomes}
use Rattle.fv_split_lanes.specs.inner.Readers.{AreReaders}
use Rattle.fv_split_lanes.specs.inner.Numbered.{AreLooped, AreInner}
use Rattle.fv_split_lanes.specs.Placed.{ArePlaced}
use Rattle.fv_split_lanes.proofs.PlaceLemmas.{read_rows, row_links, row_readers, are_lower, are_single}
use Rattle.fv_split_lanes.proofs.PlaceLemmas.{are_placed}
use Rattle.fv_split_lanes.proofs.lanes.assign_lanes.Goals as goal

pub readers-requires : goal.readers-requires
readers-requires c =
    row_links c.args.graph.now c.requires.graph c.in_ok-reads.reads c.in_ok-reads.ensures

pub separated-requires-clause-readers : goal.separated-requires-clause-readers
separated-requires-clause-readers c =
    let g = c.args.graph.now in
    let n = length g.signals in
    subst (AreReaders (reads_of g) n n) (sym c.deref.ensures.value)
    (row_readers g c.in_ok-reads.reads c.in_ok-readers.readers.items c.in_ok-reads.ensures c.in_ok-readers.ensures)

pub inner-requires-clause-rates : goal.inner-requires-clause-rates
inner-requires-clause-rates c =
    let g = c.args.graph.now in
    ap length c.requires.rates ∙ (let z = length_grown (λ now. rate_in (rate_at now)) [] g.signals in omega (arith, z))

pub homes-requires-clause-lower : goal.homes-requires-clause-lower
homes-requires-clause-lower c =
    let g = c.args.graph.now in
    subst AreLower (sym (read_rows g c.in_ok-reads.reads c.in_ok-reads.ensures)) (are_lower g c.requires.graph)

pub homes-requires-clause-single : goal.homes-requires-clause-single
homes-requires-clause-single c =
    let g = c.args.graph.now in
    let rows = c.in_ok-reads.reads in
    let readers = c.in_ok-readers.readers.items in
    let marks = c.in_ok-marks.marks.items in
    let inner = c.in_ok-inner.inner.items in
    let read = row_readers g rows readers c.in_ok-reads.ensures c.in_ok-readers.ensures in
    let inside = subst (λ rs. AreInner g rs marks (length g.signals) inner) c.requires.rates
    (subst (λ bs. AreInner g c.args.rates.now bs (length g.signals) inner) c.deref-2.ensures.value c.in_ok-inner.ensures) in
    subst (λ bs. AreSingle (next_of rows) (bit_at bs)) (sym c.deref-4.ensures.value)
    (subst (λ f. AreSingle f (bit_at inner)) (sym (read_rows g rows c.in_ok-reads.ensures))
    (are_single g c.requires.graph readers marks inner read c.in_ok-marks.ensures inside))

pub returns : goal.returns
returns c =
    let g = c.args.graph.now in
    let rows = c.in_ok-reads.reads in
    let marks = c.in_ok-marks.marks.items in
    let inner = c.in_ok-inner.inner.items in
    let numbering = c.in_ok-numbering.numbering in
    let loops = c.in_ok-numbering.loops in
    let homes = c.in_ok-homes.homes in
    let looped = subst (λ bs. AreLooped g bs numbering loops) c.deref-3.ensures.value c.in_ok-numbering.ensures in
    let inside = subst (λ rs. AreInner g rs marks (length g.signals) inner) c.requires.rates
    (subst (λ bs. AreInner g c.args.rates.now bs (length g.signals) inner) c.deref-2.ensures.value c.in_ok-inner.ensures) in
    let last = at looped.ranks (length marks) in
    let home = subst (λ f. AreHomes f (bit_at inner) numbering.places.items last homes.items) (read_rows g rows c.in_ok-reads.ensures)
    (subst (λ bs. AreHomes (next_of rows) (bit_at bs) numbering.places.items last homes.items) c.deref-4.ensures.value
    (subst (λ xs. AreHomes (next_of rows) (bit_at c.deref-4.result.now) xs last homes.items) c.deref-5.ensures.value
    (subst (λ k. AreHomes (next_of rows) (bit_at c.deref-4.result.now) c.deref-5.result.now k homes.items) looped.counted c.in_ok-homes.ensures))) in
    subst (λ k. ArePlaced g (record { lanes = numbering.lanes; signals = numbering.signals; owners = numbering.owners; loops = k; homes = homes }))
    (sym looped.counted)
    (are_placed g c.requires.graph marks inner looped.numbers looped.ranks homes numbering c.in_ok-marks.ensures looped.components looped.ranked
    looped.numbered inside home)
