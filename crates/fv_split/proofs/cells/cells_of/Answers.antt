use Rattle.std.proofs.Common.{ap, ◌∙◌, refl, arith}
use Rattle.fv_split_plan.proofs.lemmas.NodeLemmas.{node_read}
use Rattle.fv_split.specs.inner.Cells.{table_written}
use Rattle.fv_split.proofs.CellLemmas.{cells_more}
use Rattle.fv_split.proofs.cells.cells_of.Goals as goal

pub loop-s-preserved : goal.loop-s-preserved
loop-s-preserved c =
    let g = c.args.graph.now in
    let s = c.loop-s.s in
    let is = node_read g s c.new-in-loop-s.result c.signal-node.result (omega arith) c.new-in-loop-s.ensures c.signal-node.ensures.node in
    cells_more g c.args.homes.now s c.loop-s.cells c.add.new.self c.loop-s.invariant c.table_written.result _
    (c.table_written.ensures ∙ ap table_written is) refl c.in_ok-add.ensures
