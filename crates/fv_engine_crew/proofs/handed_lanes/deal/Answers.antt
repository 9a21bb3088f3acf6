use Rattle.std.proofs.Common.{◌≡◌, ℕ, ◌+◌, ◌<◌, Iter, List, [], ◌∷◌, ◌++◌, length, set, get_or, sym, ap, ◌∙◌, subst, arith, vec_capacity, inl, inr}
use Rattle.std.proofs.Common.{drop}
use Rattle.std.specs.Global.{Global, Box}
use Rattle.std.specs.Vec.Iter.{into_iter_items, into_iter_len}
use Rattle.std.specs.declared.iter.Zip.{Zip}
use Rattle.std.specs.declared.vec.IntoIter.{IntoIter}
use Rattle.std.proofs.lemmas.List.{length_push}
use Rattle.fv_graph.proofs.lemmas.Grouping.{get_any}
use Rattle.fv_split_plan.specs.headline.View.{PlanView, lane_info}
use Rattle.fv_split_plan.specs.declared.lane.LaneInfo.{LaneInfo}
use Rattle.fv_lines.specs.declared.writer.LaneWriter.{LaneWriter}
use Rattle.fv_engine_crew.specs.declared.content.Writers.{Writers}
use Rattle.fv_engine_crew.proofs.DealtSoFar.{AreDealtSoFar, HasOneMore, none_dealt, room_for_next, one_dealt, all_dealt}
use Rattle.fv_engine_crew.proofs.Stepping.{IsNext, next_of, none_left}
use Rattle.fv_engine_crew.proofs.handed_lanes.deal.Goals as goal

-- the loop of the next lane
owner_of : (p : PlanView) (n : ℕ) (info : LaneInfo) (more : List LaneInfo) → IsNext p.lanes n info more → (lane_info p n).owner ≡ info.owner
owner_of p n info more next = ap (λ (i : LaneInfo). i.owner) (next.is (record { owner = 0; history = 0 }))

-- it is there
owner_below : (p : PlanView) (n loops : ℕ) (info : LaneInfo) (more : List LaneInfo) → IsNext p.lanes n info more
    → ((l : ℕ) → l < length p.lanes → (lane_info p l).owner < p.loops) → loops ≡ p.loops → info.owner < loops
owner_below p n loops info more next below same = omega (arith, owner_of p n info more next, below n next.there, same)

pub loop-info-init : goal.loop-info-init
loop-info-init c =
    let z = c.zip-info-items.ensures in
    let same = c.into_iter-info-iterator.ensures.into_iter_gives in
    record {
      lanes = ap (λ (i : Zip (Iter LaneInfo) (IntoIter LaneWriter Global)). i.a.rest.now) same ∙ ap (λ (i : Iter LaneInfo). i.rest.now) z.first
          ∙ c.iter.ensures.rest ∙ c.lanes.ensures;
      writers = ap (λ (i : Zip (Iter LaneInfo) (IntoIter LaneWriter Global)). into_iter_items i.b) same ∙ z.second.0;
      long = omega (
        arith,
        ap (λ (i : Zip (Iter LaneInfo) (IntoIter LaneWriter Global)). into_iter_len i.b) same,
        z.second.1,
        ap (λ (i : Zip (Iter LaneInfo) (IntoIter LaneWriter Global)). length (into_iter_items i.b)) same,
        ap length z.second.0,
        c.args.all.ok,
      );
      fewer = omega arith;
      dealt = none_dealt c.args.plan.now c.args.all.items c.requires.rooms.0 c.requires.rooms.1 c.args.rooms.now c.requires.rooms.2;
    }

pub offset_bounds-rooms-info : goal.offset_bounds-rooms-info
offset_bounds-rooms-info c =
    let at = c.loop-info in
    let p : PlanView = c.args.plan.now in
    let next = next_of p.lanes at.info-iterator.a.rest.now c.next.new.self.a.rest.now c.in-Some.info.now (length at.yielded) at.invariant.lanes
    c.in-Some.ensures.steps.0 in
    omega (
      arith,
      owner_below p (length at.yielded) (length at.rooms) c.in-Some.info.now c.next.new.self.a.rest.now next
          c.loops-loops.ensures.plan.1.stands.loops.owners (at.auto.rooms ∙ c.requires.rooms.2.count),
    )

pub bounds-rooms-info : goal.bounds-rooms-info
bounds-rooms-info c =
    let at = c.loop-info in
    let p : PlanView = c.args.plan.now in
    let next = next_of p.lanes at.info-iterator.a.rest.now c.next.new.self.a.rest.now c.in-Some.info.now (length at.yielded) at.invariant.lanes
    c.in-Some.ensures.steps.0 in
    owner_below p (length at.yielded) (length at.rooms) c.in-Some.info.now c.next.new.self.a.rest.now next
    c.loops-loops.ensures.plan.1.stands.loops.owners (at.auto.rooms ∙ c.requires.rooms.2.count)

pub push_reserved-requires : goal.push_reserved-requires
push_reserved-requires c =
    let at = c.loop-info in
    let p : PlanView = c.args.plan.now in
    let n : ℕ = length at.yielded in
    let r : ℕ = (lane_info p n).owner in
    let x : Box Writers = c.index-rooms-info.result in
    let next = next_of p.lanes at.info-iterator.a.rest.now c.next.new.self.a.rest.now c.in-Some.info.now n at.invariant.lanes c.in-Some.ensures.steps.0 in
    let same : c.deref_mut.result.now ≡ (get_or at.rooms r x).value =
    c.deref_mut.ensures.value
    ∙ ap (λ (i : ℕ). (get_or at.rooms i x).value) (sym (owner_of p n c.in-Some.info.now c.next.new.self.a.rest.now next)) in
    omega (
      arith,
      c.deref_mut.result.now.lanes.own.ok,
      ap (λ (w : Writers). length w.lanes.own.items) same,
      ap (λ (w : Writers). vec_capacity w.lanes.own) same,
      room_for_next p c.args.all.items n (get_or c.args.rooms.now r x).value (get_or at.rooms r x).value next.there
          (at.invariant.dealt r x (c.loops-loops.ensures.plan.1.stands.loops.owners n next.there)),
    )

pub loop-info-preserved : goal.loop-info-preserved
loop-info-preserved c =
    let at = c.loop-info in
    let p : PlanView = c.args.plan.now in
    let all : List LaneWriter = c.args.all.items in
    let n : ℕ = length at.yielded in
    let r : ℕ = (lane_info p n).owner in
    let x : Box Writers = c.index-rooms-info.result in
    let w : LaneWriter = c.in-Some.writer in
    let steps = c.in-Some.ensures.steps in
    let next = next_of p.lanes at.info-iterator.a.rest.now c.next.new.self.a.rest.now c.in-Some.info.now n at.invariant.lanes steps.0 in
    let taken = next_of all (into_iter_items at.info-iterator.b) (into_iter_items c.next.new.self.b) w n at.invariant.writers steps.1.0 in
    let low : r < length at.rooms = omega
    (arith, c.loops-loops.ensures.plan.1.stands.loops.owners n next.there, at.auto.rooms, c.requires.rooms.2.count) in
    let owner : r ≡ c.in-Some.info.now.owner = owner_of p n c.in-Some.info.now c.next.new.self.a.rest.now next in
    let room : Box Writers = record {
      ptr = (get_or at.rooms c.in-Some.info.now.owner x).ptr;
      alloc = (get_or at.rooms c.in-Some.info.now.owner x).alloc;
      value = record {
        lanes = record { own = c.push_reserved.new.self; seen = c.deref_mut.result.now.lanes.seen; cells = c.deref_mut.result.now.lanes.cells };
        scratch = c.deref_mut.result.now.scratch;
        lists = c.deref_mut.result.now.lists;
      };
    } in
    let more : (d : Box Writers) → HasOneMore w (get_or at.rooms r d).value room.value =
    λ d.
    let same : c.deref_mut.result.now ≡ (get_or at.rooms r d).value =
    c.deref_mut.ensures.value ∙ ap (λ (i : ℕ). (get_or at.rooms i x).value) (sym owner) ∙ ap (λ (b : Box Writers). b.value) (get_any at.rooms r x d low) in
    record {
      own = c.push_reserved.ensures.items ∙ ap (λ (u : Writers). u.lanes.own.items ++ w ∷ []) same;
      room = c.push_reserved.ensures.capacity ∙ ap (λ (u : Writers). vec_capacity u.lanes.own) same;
      seen = ap (λ (u : Writers). u.lanes.seen) same;
      cells = ap (λ (u : Writers). u.lanes.cells) same;
      scratch = ap (λ (u : Writers). u.scratch) same;
      lists = ap (λ (u : Writers). u.lists) same;
    } in
    let one : length (at.yielded ++ (c.in-Some.info, w) ∷ []) ≡ n + 1 = length_push at.yielded (c.in-Some.info, w) in
    record {
      lanes = next.then ∙ ap (λ (i : ℕ). drop i p.lanes) (sym one);
      writers = taken.then ∙ ap (λ (i : ℕ). drop i all) (sym one);
      long = let was = at.invariant.long in let gone = steps.1.1 in let short = ap length steps.1.0 in omega arith;
      fewer = omega (arith, one, next.there);
      dealt = subst (λ (i : ℕ). AreDealtSoFar p all i c.args.rooms.now (set at.rooms c.in-Some.info.now.owner room)) (sym one)
          (subst (λ (i : ℕ). AreDealtSoFar p all (n + 1) c.args.rooms.now (set at.rooms i room)) owner
          (one_dealt p all n c.args.rooms.now at.rooms room w low taken.is more at.invariant.dealt));
    }

pub returns : goal.returns
returns c =
    let at = c.loop-info in
    let p : PlanView = c.args.plan.now in
    let n : ℕ = length at.yielded in
    let done : n ≡ length p.lanes = elim c.in-None.ensures.steps [
      | inl a ↦ none_left p.lanes at.info-iterator.a.rest.now n at.invariant.lanes at.invariant.fewer a.1.0
      | inr b ↦ none_left c.args.all.items (into_iter_items at.info-iterator.b) n at.invariant.writers (omega (arith, at.invariant.fewer, c.requires.count))
          (omega (arith, b.1.0, at.invariant.long)) ∙ c.requires.count
    ] in
    all_dealt p c.args.all.items n c.args.rooms.now at.rooms done at.auto.rooms at.invariant.dealt
