use Rattle.std.proofs.Common.{◌≡◌, ◌<◌, length, get_or, sym, subst, All}
use Rattle.std.proofs.lemmas.List.{get_or_read}
use Rattle.std.proofs.lemmas.List.Elements.{All-get_or}
use Rattle.fv_components.specs.headline.Reach.{at}
use Rattle.fv_split_lanes.specs.inner.Marked.{Marks, Named}
use Rattle.fv_split_lanes.proofs.MarkLemmas.{marks_more}
use Rattle.fv_split_lanes.proofs.mark.mark_named.Goals as goal

pub mark-requires-clause-signal : goal.mark-requires-clause-signal
mark-requires-clause-signal c =
    let stands = c.args.stands.now in
    let signals = c.args.signals.now in
    let k = c.loop-k.k in
    let there : k < length signals = c.loop-k-test.true in
    let read : c.index-signals-k.result ≡ get_or signals k 0 = get_or_read signals k c.index-signals-k.result there c.index-signals-k.is 0 in
    subst (λ x. x < length stands) (sym read) (All-get_or (λ x. x < length stands) signals k 0 there c.requires.signals)

pub mark-requires-clause-within : goal.mark-requires-clause-within
mark-requires-clause-within c =
    subst (λ n. All (λ s. s < n) c.args.stands.now) (sym c.loop-k.invariant.long) c.requires.within

pub loop-k-preserved : goal.loop-k-preserved
loop-k-preserved c =
    let stands = c.args.stands.now in
    let signals = c.args.signals.now in
    let k = c.loop-k.k in
    let mid = c.loop-k.marks.items in
    let new = c.mark.new.marks.items in
    let read : c.index-signals-k.result ≡ get_or signals k 0
    = get_or_read signals k c.index-signals-k.result c.loop-k-test.true c.index-signals-k.is 0 in
    marks_more (Named stands signals) k c.args.marks.now.items mid new c.loop-k.invariant
    (subst (λ x. Marks mid new (λ s. at stands x ≡ s)) read c.mark.ensures)
