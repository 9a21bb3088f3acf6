use Rattle.fv_diagram_runner.proofs.Codes.{cells_more}
use Rattle.fv_diagram_runner.proofs.draft.Draft.put_cells.Goals as goal

pub loop-preserved : goal.loop-preserved
loop-preserved c =
    let h = c.loop.invariant in
    cells_more c.args.self.now c.loop.self c.put_cell.new.self c.loop.counter c.in_ok-r.r c.loop.all.items _ h.0 h.1 c.in_ok-r.ensures
    c.in_ok-push.ensures.items
