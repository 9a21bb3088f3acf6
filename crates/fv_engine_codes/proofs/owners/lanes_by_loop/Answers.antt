use Rattle.std.proofs.Common.{◌≡◌, ◌<◌, ℕ, ◌+◌, List, [], ◌∷◌, ◌++◌, length, set, get_or, ap, ◌∙◌, subst, sym, refl, arith}
use Rattle.std.specs.Global.{Vec}
use Rattle.std.specs.Prelude.{slice_index, ◌==◌}
use Rattle.fv_graph.specs.Words.{passing}
use Rattle.fv_split_plan.specs.headline.View.{PlanView}
use Rattle.fv_split_plan.specs.declared.lane.LaneInfo.{LaneInfo}
use Rattle.fv_graph.specs.inner.Lists.{Grouped}
use Rattle.fv_graph.proofs.lemmas.Grouping.{grouped_next, get_any}
use Rattle.fv_engine_codes.proofs.Keys.{owners_of, owner_is, own_by_keys}
use Rattle.fv_engine_codes.proofs.owners.lanes_by_loop.Goals as goal

pub loop-l-preserved : goal.loop-l-preserved
loop-l-preserved c =
    let p : PlanView = c.args.plan.now in
    let k : ℕ = c.loop-l.l in
    let r : ℕ = get_or (owners_of p) k 0 in
    let none : LaneInfo = record { owner = 0; history = 0 } in
    let inside : k < length p.lanes = omega (arith, c.loop-l-test.true, ap length c.lanes-lanes.ensures) in
    let is : (get_or c.lanes-lanes.result.now k none).owner ≡ r =
    ap (λ (xs : List LaneInfo). (get_or xs k none).owner) c.lanes-lanes.ensures ∙ sym (owner_is p k inside) in
    let low : r < c.loops-loops.result = omega
    (arith, owner_is p k inside, c.loops-loops.ensures.plan.1.stands.loops.owners k inside, c.loops-loops.ensures.loops) in
    let i1 = c.loop-l.invariant.1 in
    let there : r < length c.loop-l.lists.items = omega (arith, low, i1, c.loop-l.lists.ok) in
    let lists : List (Vec ℕ) = c.loop-l.lists.items in
    let same : Grouped (owners_of p) c.loops-loops.result (k + 1) (set lists r c.push.new.self) =
    grouped_next (owners_of p) c.loops-loops.result k r lists c.push.new.self c.loop-l.invariant.0 refl there
    (λ d. c.in_ok-push.ensures.items ∙ ap (λ (v : Vec ℕ). v.items ++ k ∷ [])
    (c.index_mut-list.ensures.value ∙ ap (λ (n : ℕ). get_or lists n c.index_mut-list.result.now) is
    ∙ get_any lists r c.index_mut-list.result.now d there)) low in
    (subst (λ (n : ℕ). Grouped (owners_of p) c.loops-loops.result (k + 1) (set lists n c.push.new.self)) (sym is) same, i1)

pub returns : goal.returns
returns c =
    let p : PlanView = c.args.plan.now in
    let all : c.loop-l.l ≡ length p.lanes = omega (arith, c.loop-l-test.false, c.loop-l.auto.l-end, ap length c.lanes-lanes.ensures) in
    record {
      count = omega (arith, c.loop-l.invariant.1, c.loop-l.lists.ok, c.loops-loops.ensures.loops);
      each = λ j d l. c.loop-l.invariant.0 j d (omega (arith, l, c.loops-loops.ensures.loops))
          ∙ ap (passing (λ i. slice_index (owners_of p) i == j) 0) all ∙ own_by_keys p j;
    }
