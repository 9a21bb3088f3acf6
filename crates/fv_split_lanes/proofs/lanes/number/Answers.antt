use Rattle.std.proofs.Common.{length, refl, subst}
use Rattle.fv_components.specs.headline.Reach.{at}
use Rattle.fv_split_lanes.specs.inner.Homes.{bit_at}
use Rattle.fv_split_lanes.specs.inner.Numbered.{AddsSignal}
use Rattle.fv_split_lanes.proofs.NumberLemmas.{signal_more}
use Rattle.fv_split_lanes.proofs.lanes.number.Goals as goal

pub loop-s-preserved : goal.loop-s-preserved
loop-s-preserved c =
    let marks = c.args.marks.now in
    let numbers = c.args.numbers.now in
    let ranks = c.args.ranks.now in
    let s = c.loop-s.s in
    let old = c.loop-s.numbering in
    let new = c.add.new.self in
    signal_more marks numbers ranks s old new (bit_at marks s) (at ranks (at numbers s)) (at ranks (length marks)) c.loop-s.invariant refl refl refl
    (subst (λ k. AddsSignal old k (bit_at marks s) (at ranks (at numbers s)) (at ranks (length marks)) new) c.new-in-loop-s.ensures c.in_ok-add.ensures)
