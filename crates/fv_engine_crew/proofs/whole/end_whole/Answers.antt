use Rattle.std.proofs.Common.{◌≡◌, ℕ, ◌++◌, List, map, All, append-nil, sym, ap, ◌∙◌, subst, arith}
use Rattle.fv_loopcode.specs.headline.Lanes.{Lane}
use Rattle.fv_lines.specs.Seen.{lane_seen}
use Rattle.fv_lines.specs.declared.seen.Seen.{Seen}
use Rattle.fv_engine_tasks.specs.Outputs.{CanRead}
use Rattle.fv_engine_codes.specs.declared.loop_cells.LoopCells.{LoopCells}
use Rattle.fv_engine_codes.specs.Lanes.{lane_open, lanes_in}
use Rattle.fv_engine_crew.proofs.whole.end_whole.Goals as goal

pub copy_outputs-requires-clause-there : goal.copy_outputs-requires-clause-there
copy_outputs-requires-clause-there c = λ t m.
    let cells : LoopCells = record { plan = c.args.block.now.plan; places = c.args.block.now.places; loop_no = 0; lists = c.new.result } in
    let alone : lanes_in (record { own = c.args.all; seen = c.new-2.result; cells = cells }) ≡ map lane_open c.args.all.items =
    ap (λ (ss : List Seen). map lane_open c.args.all.items ++ map lane_seen ss) c.new-2.ensures.items ∙ append-nil (map lane_open c.args.all.items) in
    subst (λ (ls : List Lane). All (CanRead ls t) c.outputs.result.now) (sym alone)
    (subst (λ (xs : List ℕ). All (CanRead (map lane_open c.args.all.items) t) xs) (sym c.outputs.ensures)
    (c.requires.there t (omega (arith, m, c.from.ensures))))
