use Rattle.std.proofs.Common.{◌≡◌, ℕ, ◌+◌, ◌<◌, Iter, List, [], ◌∷◌, ◌++◌, length, set, get_or, refl, sym, ap, ◌∙◌, subst, arith}
use Rattle.std.specs.Global.{Box}
use Rattle.std.proofs.lemmas.List.{length-append, length-reverse, length-set, length_push}
use Rattle.std.specs.declared.iter.Rev.{Rev}
use Rattle.fv_graph.proofs.lemmas.Grouping.{get_any}
use Rattle.fv_split_plan.specs.headline.View.{PlanView, lane_info}
use Rattle.fv_split_plan.specs.declared.lane.LaneInfo.{LaneInfo}
use Rattle.fv_lines.specs.declared.writer.LaneWriter.{LaneWriter}
use Rattle.fv_engine_crew.specs.declared.start.Start.{Start}
use Rattle.fv_engine_crew.specs.declared.content.Writers.{Writers}
use Rattle.fv_engine_crew.specs.Contents.{tasks_in}
use Rattle.fv_engine_crew.specs.Collected.{AreAllWriters}
use Rattle.fv_engine_crew.proofs.Returns.{AreBack, IsLastLane, last_lane, none_back, one_there, one_back, all_back}
use Rattle.fv_engine_crew.proofs.returned_lanes.all_writers.Goals as goal

pub loop-info-init : goal.loop-info-init
loop-info-init c =
    let p : PlanView = c.args.start.now.plan.now in
    let rest : c.into_iter-info-iterator.result.iter.rest.now ≡ p.lanes =
    ap (λ (r : Rev (Iter LaneInfo)). r.iter.rest.now) c.into_iter-info-iterator.ensures.into_iter_gives
    ∙ ap (λ (i : Iter LaneInfo). i.rest.now) c.rev-info-items.ensures.source ∙ c.iter.ensures.rest ∙ c.lanes.ensures in
    let none : length c.args.all.items ≡ 0 = omega (arith, c.requires.none, c.args.all.ok) in
    record {
      lanes = λ i d l. ap (λ (xs : List LaneInfo). get_or xs i d) rest;
      count = refl;
      taken = omega (arith, none, ap length rest);
      room = c.requires.room;
      back = λ v a. none_back c.args.start.now v (length c.into_iter-info-iterator.result.iter.rest.now) c.args.writers.items c.args.all.items
          (ap length rest) none a;
    }

pub index_mut-requires : goal.index_mut-requires
index_mut-requires c =
    let at = c.loop-info in
    let p : PlanView = c.args.start.now.plan.now in
    let last : IsLastLane p c.next.new.self.iter.rest.now c.in-Some.info.now =
    last_lane p at.info-iterator.iter.rest.now c.next.new.self.iter.rest.now c.in-Some.info.now c.in-Some.ensures.steps
    (omega (arith, at.invariant.taken)) at.invariant.lanes in
    omega (
      arith,
      ap (λ (i : LaneInfo). i.owner) last.is,
      c.loops-loops.ensures.plan.1.stands.loops.owners (length c.next.new.self.iter.rest.now) last.there,
      at.invariant.count,
      at.writers.ok,
      c.requires.writers.1.count,
      c.requires.loops,
    )

pub unreachable-requires : goal.unreachable-requires
unreachable-requires c =
    let at = c.loop-info in
    let k : Start = c.args.start.now in
    let p : PlanView = k.plan.now in
    let left : List LaneInfo = c.next.new.self.iter.rest.now in
    let n : ℕ = length left in
    let v : ℕ = c.requires.writers.0 in
    let steps = c.in-Some.ensures.steps in
    let last : IsLastLane p left c.in-Some.info.now =
    last_lane p at.info-iterator.iter.rest.now left c.in-Some.info.now steps (omega (arith, at.invariant.taken)) at.invariant.lanes in
    let x : Box Writers = c.index_mut.result.now in
    let same : c.deref_mut.result.now ≡ (get_or at.writers.items (lane_info p n).owner x).value =
    c.deref_mut.ensures.value ∙ ap (λ (b : Box Writers). b.value) c.index_mut.ensures.value
    ∙ ap (λ (i : LaneInfo). (get_or at.writers.items i.owner x).value) (sym last.is) in
    let back : AreBack k v (n + 1) at.writers.items at.all.items =
    subst (λ (m : ℕ). AreBack k v m at.writers.items at.all.items) (ap length steps ∙ length_push left c.in-Some.info.now)
    (at.invariant.back v c.requires.writers.1) in
    let some = one_there k v n at.writers.items at.all.items x
    (omega (arith, c.loops-loops.ensures.plan.1.stands.loops.owners n last.there, c.requires.loops)) back in
    absurd (omega (
      arith,
      some,
      ap (λ (w : Writers). length w.lanes.own.items) same,
      c.in_default.ensures.cases.0,
      c.deref_mut.result.now.lanes.own.ok,
    ))

pub push_reserved-requires : goal.push_reserved-requires
push_reserved-requires c =
    let at = c.loop-info in
    let steps = ap length c.in-Some.ensures.steps in
    omega (arith, steps, length-append c.next.new.self.iter.rest.now (c.in-Some.info.now ∷ []), at.invariant.taken, at.invariant.room, at.all.ok)

pub loop-info-preserved : goal.loop-info-preserved
loop-info-preserved c =
    let at = c.loop-info in
    let k : Start = c.args.start.now in
    let p : PlanView = k.plan.now in
    let left : List LaneInfo = c.next.new.self.iter.rest.now in
    let n : ℕ = length left in
    let r : ℕ = (lane_info p n).owner in
    let w : LaneWriter = c.in-Some-pop.writer in
    let steps = c.in-Some.ensures.steps in
    let long : length at.info-iterator.iter.rest.now ≡ n + 1 = ap length steps ∙ length_push left c.in-Some.info.now in
    let last : IsLastLane p left c.in-Some.info.now =
    last_lane p at.info-iterator.iter.rest.now left c.in-Some.info.now steps (omega (arith, at.invariant.taken)) at.invariant.lanes in
    let owner : r ≡ c.in-Some.info.now.owner = ap (λ (i : LaneInfo). i.owner) last.is in
    let low : r < (tasks_in k).loops = omega (arith, c.loops-loops.ensures.plan.1.stands.loops.owners n last.there, c.requires.loops) in
    let there : r < length at.writers.items = omega (arith, low, at.invariant.count, c.requires.writers.1.count) in
    let x : Box Writers = c.index_mut.result.now in
    let room : Box Writers = record {
      ptr = x.ptr;
      alloc = x.alloc;
      value = record {
        lanes = record { own = c.pop.new.self; seen = c.deref_mut.result.now.lanes.seen; cells = c.deref_mut.result.now.lanes.cells };
        scratch = c.deref_mut.result.now.scratch;
        lists = c.deref_mut.result.now.lists;
      };
    } in
    let own : (d : Box Writers) → (get_or at.writers.items r d).value.lanes.own.items ≡ room.value.lanes.own.items ++ w ∷ [] =
    λ d.
    let same : (get_or at.writers.items r d).value ≡ c.deref_mut.result.now =
    ap (λ (b : Box Writers). b.value) (get_any at.writers.items r d x there) ∙ ap (λ (i : ℕ). (get_or at.writers.items i x).value) owner
    ∙ sym (c.deref_mut.ensures.value ∙ ap (λ (b : Box Writers). b.value) c.index_mut.ensures.value) in
    ap (λ (u : Writers). u.lanes.own.items) same ∙ c.in-Some-pop.ensures.items in
    record {
      lanes = last.lanes;
      count = length-set at.writers.items c.in-Some.info.now.owner room ∙ at.invariant.count;
      taken = omega (arith, long, at.invariant.taken, ap length c.push_reserved.ensures.items, length_push at.all.items w);
      room = omega (arith, c.push_reserved.ensures.capacity, at.invariant.room);
      back = λ v a.
          subst (λ (us : List LaneWriter). AreBack k v n (set at.writers.items c.in-Some.info.now.owner room) us) (sym c.push_reserved.ensures.items)
          (subst (λ (i : ℕ). AreBack k v n (set at.writers.items i room) (at.all.items ++ w ∷ [])) owner
          (one_back k v n at.writers.items at.all.items w room low there own
          (subst (λ (m : ℕ). AreBack k v m at.writers.items at.all.items) long (at.invariant.back v a))));
    }

pub returns : goal.returns
returns c = λ v a.
    let at = c.loop-info in
    let k : Start = c.args.start.now in
    let none : length at.info-iterator.iter.rest.now ≡ 0 = c.in-None.ensures.steps.0 in
    subst (AreAllWriters k v) (sym c.reverse.ensures.items)
    (all_back k v (length at.info-iterator.iter.rest.now) at.writers.items at.all.items none
    (omega (arith, length-reverse at.all.items, at.invariant.taken, none)) (at.invariant.back v a))
