use Rattle.std.proofs.Common.{◌≡◌, ap, ◌∙◌, subst, arith, false}
use Rattle.std.specs.Prelude.{◌↔◌, IsTrue}
use Rattle.fv_signal.specs.declared.rate.Rate.TheVariants as rate
use Rattle.fv_signal.specs.headline.Rates.{rate_at}
use Rattle.fv_analysis.specs.headline.Stands.{node}
use Rattle.fv_split_plan.specs.headline.Separated.{IsComputed}
use Rattle.fv_split_lanes.specs.inner.Homes.{bit_at}
use Rattle.fv_split_plan.proofs.lemmas.NodeLemmas.{node_read}
use Rattle.fv_split_lanes.proofs.NumberLemmas.{inner_more}
use Rattle.fv_split_lanes.proofs.lanes.inner.Goals as goal

pub loop-s-preserved : goal.loop-s-preserved
loop-s-preserved c =
    let g = c.args.graph.now in
    let rates = c.args.rates.now in
    let marks = c.args.marks.now in
    let s = c.loop-s.s in
    let b = c.is_inner.result in
    let is = node_read g s c.new-id.result c.signal.result (omega arith) c.new-id.ensures c.signal.ensures.node in
    let often = c.get.ensures ∙ ap (rate_at rates) c.new-id.ensures in
    inner_more g rates marks c.loop-s.inner.items c.push.new.self.items s b c.loop-s.invariant c.in_ok-push.ensures.items
    (subst (λ r. IsTrue b ↔ (IsComputed (node g s) × (r ≡ rate.Sample) × (bit_at marks s ≡ false))) often
    (subst (λ n. IsTrue b ↔ (IsComputed n × (c.get.result ≡ rate.Sample) × (bit_at marks s ≡ false))) is c.is_inner.ensures))
