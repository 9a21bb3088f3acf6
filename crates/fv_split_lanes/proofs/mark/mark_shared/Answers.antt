use Rattle.std.proofs.Common.{ap, ◌∙◌, subst, arith}
use Rattle.std.specs.Prelude.{◌↔◌, IsTrue}
use Rattle.fv_signal.specs.headline.Rates.{rate_at}
use Rattle.fv_analysis.specs.headline.Stands.{node}
use Rattle.fv_split_lanes.specs.inner.Readers.{reader_at}
use Rattle.fv_split_lanes.specs.inner.Marked.{Shared, IsSharedBy}
use Rattle.fv_split_plan.proofs.lemmas.NodeLemmas.{node_read}
use Rattle.fv_split_lanes.proofs.MarkLemmas.{marks_more, marks_where}
use Rattle.fv_split_lanes.proofs.mark.mark_shared.Goals as goal

pub loop-k-preserved : goal.loop-k-preserved
loop-k-preserved c =
    let g = c.args.graph.now in
    let rates = c.args.rates.now in
    let readers = c.args.readers.now in
    let k = c.loop-k.k in
    let mid = c.loop-k.marks.items in
    let new = c.mark_where.new.marks.items in
    let shared = c.is_shared-shared.result in
    let is = node_read g k c.new-id.result c.signal.result (omega arith) c.new-id.ensures c.signal.ensures.node in
    let often = c.get.ensures ∙ ap (rate_at rates) c.new-id.ensures in
    let same = subst (λ r. IsTrue shared ↔ IsSharedBy (node g k) r (reader_at readers k)) often
    (subst (λ n. IsTrue shared ↔ IsSharedBy n c.get.result (reader_at readers k)) is c.is_shared-shared.ensures) in
    marks_more (Shared g rates readers) k c.args.marks.now.items mid new c.loop-k.invariant
    (marks_where mid new k shared (IsSharedBy (node g k) (rate_at rates k) (reader_at readers k)) same c.mark_where.ensures)
