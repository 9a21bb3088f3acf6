use Rattle.std.proofs.Common.{sym, ap, ◌∙◌, arith}
use Rattle.fv_split_plan.specs.headline.Separated.{found_from, links_of}
use Rattle.fv_split_plan.proofs.lemmas.NodeLemmas.{node_read}
use Rattle.fv_split_lanes.proofs.lemmas.RowLemmas.{rows_more, links_are}
use Rattle.fv_split_lanes.proofs.rows.links.Goals as goal

pub loop-s-preserved : goal.loop-s-preserved
loop-s-preserved c =
    let g = c.args.graph.now in
    let s = c.loop-s.s in
    let is = node_read g s c.new.result c.signal.result (omega arith) c.new.ensures c.signal.ensures.node in
    rows_more (links_of g) s c.loop-s.rows c.add_links.new.rows (found_from g c.signal.result) c.loop-s.invariant c.in_ok-add_links.ensures
    (ap (found_from g) is ∙ sym (links_are g s (omega arith)))
