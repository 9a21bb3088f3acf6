use Rattle.std.proofs.Common.{◌≤◌, length, map, sym, ap, ◌∙◌, arith}
use Rattle.fv_components.specs.headline.Reach.{at}
use Rattle.fv_analysis.specs.headline.Stands.{stand}
use Rattle.fv_analysis.proofs.lemmas.StandLemmas.{stands_long}
use Rattle.fv_split_plan.specs.headline.Separated.{operands}
use Rattle.fv_split_lanes.specs.inner.Rows.{reads_of}
use Rattle.fv_split_plan.proofs.lemmas.NodeLemmas.{node_read, operands_within}
use Rattle.fv_split_lanes.proofs.lemmas.RowLemmas.{rows_more, reads_are}
use Rattle.fv_split_lanes.proofs.rows.reads.Goals as goal

pub add_reads-requires : goal.add_reads-requires
add_reads-requires c =
    let g = c.args.graph.now in
    let stands = c.args.stands.now in
    let long = ap length c.requires ∙ stands_long g in
    let e = c.new.ensures in
    let few : c.new.result ≤ length stands = omega (arith, e, long) in
    operands_within g c.new.result (length stands) c.signal.result few c.signal.ensures.operands

pub loop-s-preserved : goal.loop-s-preserved
loop-s-preserved c =
    let g = c.args.graph.now in
    let s = c.loop-s.s in
    let is = node_read g s c.new.result c.signal.result (omega arith) c.new.ensures c.signal.ensures.node in
    rows_more (reads_of g) s c.loop-s.rows c.add_reads.new.rows (map (at c.args.stands.now) (operands c.signal.result)) c.loop-s.invariant
    c.in_ok-add_reads.ensures
    (ap (λ ss. map (at ss) (operands c.signal.result)) c.requires ∙ ap (λ n. map (stand g) (operands n)) is ∙ sym (reads_are g s (omega arith)))
