use Rattle.std.proofs.Common.{◌≡◌, ◌<◌, ℕ, List, [], ◌∷◌, length, ap, ◌∙◌, arith}
use Rattle.std.specs.Global.{Vec}
use Rattle.std.proofs.lemmas.List.{length-append}
use Rattle.fv_split_plan.specs.headline.View.{PlanView}
use Rattle.fv_engine_codes.specs.Plans.{own_lanes, sources_of, lanes_of_all}
use Rattle.fv_engine_codes.proofs.counts.count_lanes.Goals as goal

element : {X : Type 0} (xs : List X) (i : ℕ) → i < length xs → X
element [] i l = absurd (omega arith)
element (x ∷ xs) i l = x

pub overflow_sub-result : goal.overflow_sub-result
overflow_sub-result c =
    let p : PlanView = c.args.plan.now in
    let d : Vec ℕ = element c.args.lists.now c.args.loop_no (omega (arith, c.requires.lists.count, c.requires.there)) in
    let own : c.lanes_of.result.now ≡ own_lanes p c.args.loop_no = c.lanes_of.ensures d ∙ c.requires.lists.each c.args.loop_no d c.requires.there in
    omega (
      arith,
      c.number_lanes-all.ensures.count,
      ap length own,
      length-append (own_lanes p c.args.loop_no) (lanes_of_all p (sources_of c.args.tasks.now.tasks c.args.loop_no)),
    )

pub returns : goal.returns
returns c =
    let p : PlanView = c.args.plan.now in
    let d : Vec ℕ = element c.args.lists.now c.args.loop_no (omega (arith, c.requires.lists.count, c.requires.there)) in
    let own : c.lanes_of.result.now ≡ own_lanes p c.args.loop_no = c.lanes_of.ensures d ∙ c.requires.lists.each c.args.loop_no d c.requires.there in
    record {
      own = ap length own;
      seen = omega (
        arith,
        c.number_lanes-all.ensures.count,
        ap length own,
        length-append (own_lanes p c.args.loop_no) (lanes_of_all p (sources_of c.args.tasks.now.tasks c.args.loop_no)),
      );
    }
