use Rattle.std.proofs.Common.{subst, arith}
use Rattle.fv_split_lanes.specs.inner.Marked.{Marks, DelaysTo, Delayed}
use Rattle.fv_split_plan.proofs.lemmas.NodeLemmas.{node_read}
use Rattle.fv_split_lanes.proofs.MarkLemmas.{marks_more}
use Rattle.fv_split_lanes.proofs.mark.mark_delays.Goals as goal

pub loop-k-preserved : goal.loop-k-preserved
loop-k-preserved c =
    let g = c.args.graph.now in
    let stands = c.args.stands.now in
    let k = c.loop-k.k in
    let mid = c.loop-k.marks.items in
    let new = c.mark_delay.new.marks.items in
    let is = node_read g k c.new.result c.signal.result (omega arith) c.new.ensures c.signal.ensures.node in
    marks_more (Delayed g stands) k c.args.marks.now.items mid new c.loop-k.invariant (subst (λ n. Marks mid new (DelaysTo stands n)) is c.mark_delay.ensures)
