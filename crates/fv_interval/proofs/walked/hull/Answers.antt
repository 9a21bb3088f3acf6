use Rattle.std.proofs.Common.{◌≡◌, ◌+◌, ap, sym, ◌∙◌, drop, get_or, arith, rules, pos}
use Rattle.std.proofs.lemmas.List.{at_drop_more}
use Rattle.fv_num.specs.headline.Interval.{hull, point}
use Rattle.fv_interval.specs.headline.WireSpans.{hull_with}
use Rattle.fv_interval.proofs.walked.hull.Goals as goal

pub loop-i-preserved : goal.loop-i-preserved
loop-i-preserved c =
    let xs = c.args.values.now in
    let i = c.loop-i.i in
    let here : c.point.result ≡ point (get_or xs i (pos 0)) = search rules in
    let next = at_drop_more (hull_with c.loop-i.hull) xs i (pos 0) c.loop-i-test.true in
    let inv = c.loop-i.invariant in (
      ap (λ s. hull_with s (drop (i + 1) xs)) (c.hull-hull.ensures.value ∙ ap (hull c.loop-i.hull) here) ∙ sym next ∙ inv.0,
      omega arith,
    )
