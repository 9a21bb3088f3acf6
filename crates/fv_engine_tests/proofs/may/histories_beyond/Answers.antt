use Rattle.std.proofs.Common.{◌≤◌, List, length, get_or, ap, ◌∙◌, arith, below_more}
use Rattle.std.proofs.lemmas.List.{get_or_default}
use Rattle.fv_base.specs.declared.limits.TheConstants.{DELAY_BUDGET}
use Rattle.fv_split_plan.specs.headline.View.{lane_info}
use Rattle.fv_split_plan.specs.declared.lane.LaneInfo.{LaneInfo}
use Rattle.fv_engine_tests.proofs.may.histories_beyond.Goals as goal

pub loop-i-preserved : goal.loop-i-preserved
loop-i-preserved c =
    let p = c.args.plan.now in let i = c.loop-i.i in let none : LaneInfo = record { owner = 0; history = 0 } in
    let lane = get_or_default c.lanes-lanes.result.now i none none c.loop-i-test.true ∙ ap (λ (xs : List LaneInfo). get_or xs i none) c.lanes-lanes.ensures in
    let e = ap (λ (x : LaneInfo). x.history) lane in
    below_more (λ k. (lane_info p k).history ≤ DELAY_BUDGET) i c.loop-i.invariant (omega (arith, e))

pub returns : goal.returns
returns c = λ t l m. c.loop-i.invariant l (let e = ap (λ (xs : List LaneInfo). length xs) c.lanes-lanes.ensures in omega (arith, e, m))
