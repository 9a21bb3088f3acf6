use Rattle.std.proofs.Common.{ap, ◌∙◌, arith}
use Rattle.fv_signal.specs.headline.Rates.{rate_at}
use Rattle.fv_components.specs.headline.Reach.{at}
use Rattle.fv_analysis.specs.headline.Stands.{node}
use Rattle.fv_split_plan.proofs.lemmas.NodeLemmas.{node_read}
use Rattle.fv_split.specs.inner.Bases.{base_of}
use Rattle.fv_split.proofs.ListLemmas.{bases_more}
use Rattle.fv_split.proofs.kinds.bases.Goals as goal

pub loop-s-preserved : goal.loop-s-preserved
loop-s-preserved c =
    let g = c.args.graph.now in
    let stands = c.args.stands.now in
    let rates = c.args.rates.now in
    let lanes = c.args.lanes.now in
    let numbers = c.args.numbers.now in
    let s = c.loop-s.s in
    let is = node_read g s c.new-id.result c.signal-node.result (omega arith) c.new-id.ensures c.signal-node.ensures.node in
    let often = c.get.ensures ∙ ap (rate_at rates) c.new-id.ensures in
    bases_more g stands rates lanes numbers s c.loop-s.bases.items c.push.new.self.items c.base_of.result c.loop-s.invariant c.in_ok-push.ensures.items
    (c.base_of.ensures ∙ ap (λ n. base_of g stands lanes n c.get.result (at numbers s)) is ∙ ap (λ r. base_of g stands lanes (node g s) r (at numbers s)) often)
