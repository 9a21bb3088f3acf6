use Rattle.std.proofs.Common.{subst, arith}
use Rattle.std.specs.Prelude.{◌↔◌, IsTrue}
use Rattle.fv_analysis.specs.headline.Stands.{node}
use Rattle.fv_split_plan.specs.Separated.{IsWritten}
use Rattle.fv_split_lanes.specs.inner.Marked.{Written}
use Rattle.fv_split_plan.proofs.lemmas.NodeLemmas.{node_read}
use Rattle.fv_split_lanes.proofs.MarkLemmas.{marks_more, marks_where}
use Rattle.fv_split_lanes.proofs.mark.mark_written.Goals as goal

pub loop-k-preserved : goal.loop-k-preserved
loop-k-preserved c =
    let g = c.args.graph.now in
    let k = c.loop-k.k in
    let mid = c.loop-k.marks.items in
    let new = c.mark_where.new.marks.items in
    let written = c.is_written-written.result in
    let is = node_read g k c.new.result c.signal.result (omega arith) c.new.ensures c.signal.ensures.node in
    let same = subst (λ n. IsTrue written ↔ IsWritten n) is c.is_written-written.ensures in
    marks_more (Written g) k c.args.marks.now.items mid new c.loop-k.invariant
    (marks_where mid new k written (IsWritten (node g k)) same c.mark_where.ensures)
