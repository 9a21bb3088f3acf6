use Rattle.std.proofs.Common.{◌+◌, List, get_or, sym, ap, ◌∙◌, subst}
use Rattle.std.proofs.lemmas.List.{get_or_default}
use Rattle.fv_lines.specs.Shape.{IsLaneLength}
use Rattle.fv_lines.specs.declared.shape.LaneShape.{LaneShape}
use Rattle.fv_split_plan.specs.declared.lane.LaneInfo.{LaneInfo}
use Rattle.fv_engine.proofs.Made.{ShapesSoFar, more_shapes}
use Rattle.fv_engine.proofs.make.shapes.Goals as goal

pub loop-i-preserved : goal.loop-i-preserved
loop-i-preserved c =
    let p = c.args.plan.now in let i = c.loop-i.i in let none : LaneInfo = record { owner = 0; history = 0 } in
    let lane = get_or_default c.lanes-lanes.result.now i _ none c.loop-i-test.true ∙ ap (λ (xs : List LaneInfo). get_or xs i none) c.lanes-lanes.ensures in
    let history = c.new.ensures.0 ∙ ap (λ (x : LaneInfo). x.history) lane in
    subst (λ (xs : List LaneShape). ShapesSoFar p c.args.block (i + 1) xs) (sym c.in_ok-push.ensures.items)
    (more_shapes p c.args.block i c.loop-i.shapes.items c.new.result c.loop-i.invariant history c.new.ensures.1
    (subst (λ h. IsLaneLength h c.args.block c.new.result.len) (sym c.new.ensures.0 ∙ history) c.new.ensures.2))
