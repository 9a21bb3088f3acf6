use Rattle.std.proofs.Common.{◌≡◌, ℕ, suc, ◌+◌, ◌-◌, ◌≤◌, vec_capacity, ◌++◌, List, [], ◌∷◌, length, map, drop, get_or, subst, sym, refl, ap, ◌∙◌, arith}
use Rattle.std.specs.Prelude.{reverse, All}
use Rattle.fv_lines.specs.declared.writer.LaneWriter.{LaneWriter}
use Rattle.fv_engine_codes.specs.Plans.{own_lanes}
use Rattle.fv_engine_crew.specs.Contents.{lanes_seen, list_room, AreWritersOf, AreRoomy, AreHandedOn}
use Rattle.fv_engine_crew.specs.declared.start.Start.{Start}
use Rattle.fv_engine_crew.specs.declared.content.Writers.{Writers}
use Rattle.fv_engine_crew.specs.declared.parcel.LoopParcel.{LoopParcel}
use Rattle.fv_engine_crew.proofs.lemmas.Handing.{seen_written, content_seen, content_writers, one_edge, drop_all, edges_push, keys_push}
use Rattle.fv_engine_crew.proofs.body.LoopBody.hand.Goals as goal

pub loop-i-init : goal.loop-i-init
loop-i-init c =
    let k : Start = c.args.self.now.start in
    let j : ℕ = c.args.task.loop_no in
    let v : ℕ = c.args.task.vector in
    let es : List ℕ = c.args.edges.now in
    let n : ℕ = length es in
    record {
      writers = subst (λ (m : ℕ). AreHandedOn k j (v + 1) m c.args.writers.value) (omega arith) c.requires.writers;
      edges = ap (map (λ (p : LoopParcel). p.edge)) c.requires.empty ∙ sym (ap reverse (drop_all es (n - 0) (omega arith)));
      keys = λ i d m. absurd (omega (arith, m, ap length c.requires.empty));
      count = omega (arith, c.args.parcels.now.ok, ap length c.requires.empty);
      room = refl;
    }

pub see-lanes-requires : goal.see-lanes-requires
see-lanes-requires c =
    let k : Start = c.args.self.now.start in
    let j : ℕ = c.args.task.loop_no in
    let v : ℕ = c.args.task.vector in
    let es : List ℕ = c.args.edges.now in
    let n : ℕ = length es in
    let i : ℕ = c.loop-i.i in
    let ws : Writers = c.deref_mut-room.result.now in
    let h : AreHandedOn k j (v + 1) (n - 1 - i) ws =
    subst (λ (w : Writers). AreHandedOn k j (v + 1) (n - 1 - i) w) (sym c.deref_mut-room.ensures.value) c.loop-i.invariant.writers in
    let count : length c.as_slice.result.now ≡ length (own_lanes k.plan.now j) = ap length c.as_slice.ensures.value ∙ h.writers.count in
    record {
      some = λ many. omega (arith, h.lists (omega (arith, many, count)), c.loop-i-test.true);
      roomy = subst (λ (m : ℕ). AreRoomy ws.lists.items (list_room m)) (sym count) h.roomy;
    }

pub new-parcel-requires : goal.new-parcel-requires
new-parcel-requires c =
    let k : Start = c.args.self.now.start in
    let j : ℕ = c.args.task.loop_no in
    let v : ℕ = c.args.task.vector in
    let es : List ℕ = c.args.edges.now in
    let n : ℕ = length es in
    let i : ℕ = c.loop-i.i in
    let ws : Writers = c.deref_mut-room.result.now in
    let h : AreHandedOn k j (v + 1) (n - 1 - i) ws =
    subst (λ (w : Writers). AreHandedOn k j (v + 1) (n - 1 - i) w) (sym c.deref_mut-room.ensures.value) c.loop-i.invariant.writers in
    let own : c.as_slice.result.now ≡ ws.lanes.own.items = c.as_slice.ensures.value in
    content_seen k j v (get_or es (n - 1 - i) 0) c.see-lanes.result
    (c.requires.pairs (n - 1 - i) (omega (arith, c.loop-i-test.true)) (omega (arith, c.loop-i-test.true, c.requires.some)))
    (seen_written k (own_lanes k.plan.now j) (v + 1) c.as_slice.result.now (lanes_seen c.see-lanes.result) c.see-lanes.ensures.seen
    (subst (λ (xs : List LaneWriter). AreWritersOf k (own_lanes k.plan.now j) (v + 1) xs) (sym own) h.writers))

pub push_reserved-requires : goal.push_reserved-requires
push_reserved-requires c =
    omega (arith, c.loop-i.invariant.count, c.loop-i.invariant.room, c.requires.room, c.loop-i-test.true)

pub loop-i-preserved : goal.loop-i-preserved
loop-i-preserved c =
    let k : Start = c.args.self.now.start in
    let j : ℕ = c.args.task.loop_no in
    let v : ℕ = c.args.task.vector in
    let es : List ℕ = c.args.edges.now in
    let n : ℕ = length es in
    let i : ℕ = c.loop-i.i in
    let ws : Writers = c.deref_mut-room.result.now in
    let h : AreHandedOn k j (v + 1) (n - 1 - i) ws =
    subst (λ (w : Writers). AreHandedOn k j (v + 1) (n - 1 - i) w) (sym c.deref_mut-room.ensures.value) c.loop-i.invariant.writers in
    let count : length c.as_slice.result.now ≡ length (own_lanes k.plan.now j) = ap length c.as_slice.ensures.value ∙ h.writers.count in
    let e : ℕ = get_or es (n - 1 - i) 0 in
    let more : n - i ≡ suc (n - 1 - i) = omega (arith, c.loop-i-test.true) in
    let less : n - 1 - i ≡ n - (i + 1) = omega arith in
    record {
      writers = record {
        writers = h.writers;
        cells = h.cells;
        nothing_seen = h.nothing_seen;
        room = h.room;
        scratch = h.scratch;
        lists = λ many. omega (arith, h.lists many, c.loop-i-test.true, c.see-lanes.ensures.lists (omega (arith, many, count)));
        roomy = subst (λ (m : ℕ). AreRoomy c.see-lanes.new.lists.items (list_room m)) count c.see-lanes.ensures.roomy;
      };
      edges = ap (map (λ (p : LoopParcel). p.edge)) c.push_reserved.ensures.items
          ∙ edges_push c.loop-i.parcels.items c.new-parcel.result e c.new-parcel.ensures.0
          ∙ ap (λ (xs : List ℕ). xs ++ e ∷ []) c.loop-i.invariant.edges
          ∙ ap (λ (x : ℕ). reverse (drop x es) ++ e ∷ []) more
          ∙ sym (one_edge es (n - 1 - i) (omega (arith, c.loop-i-test.true)))
          ∙ ap (λ (x : ℕ). reverse (drop x es)) less;
      keys = subst (λ (qs : List LoopParcel). All (λ (q : LoopParcel). q.start.value ≡ k) qs) (sym c.push_reserved.ensures.items)
          (keys_push k c.loop-i.parcels.items c.new-parcel.result c.loop-i.invariant.keys c.new-parcel.ensures.1);
      count = omega (arith, c.push_reserved.ensures.len, c.loop-i.invariant.count);
      room = c.push_reserved.ensures.capacity ∙ c.loop-i.invariant.room;
    }

pub new-parcel-requires-2 : goal.new-parcel-requires-2
new-parcel-requires-2 c =
    let k : Start = c.args.self.now.start in
    let j : ℕ = c.args.task.loop_no in
    let v : ℕ = c.args.task.vector in
    let es : List ℕ = c.args.edges.now in
    content_writers k j (v + 1) (get_or es 0 0) c.loop-i.writers c.requires.chain
    (subst (λ (m : ℕ). AreHandedOn k j (v + 1) m c.loop-i.writers.value) (omega (arith, c.loop-i-test.false)) c.loop-i.invariant.writers)

pub push_reserved-requires-2 : goal.push_reserved-requires-2
push_reserved-requires-2 c =
    omega (arith, c.loop-i.invariant.count, c.loop-i.invariant.room, c.requires.room, c.requires.some, c.loop-i.auto.i-end)

pub returns-clause-edges : goal.returns-clause-edges
returns-clause-edges c =
    let es : List ℕ = c.args.edges.now in
    let n : ℕ = length es in
    let i : ℕ = c.loop-i.i in
    let e : ℕ = get_or es 0 0 in
    let one : n - i ≡ suc 0 = omega (arith, c.loop-i-test.false, c.loop-i.auto.i-end, c.requires.some) in
    ap (map (λ (p : LoopParcel). p.edge)) c.push_reserved-2.ensures.items
    ∙ edges_push c.loop-i.parcels.items c.new-parcel-2.result e c.new-parcel-2.ensures.0
    ∙ ap (λ (xs : List ℕ). xs ++ e ∷ []) c.loop-i.invariant.edges
    ∙ ap (λ (x : ℕ). reverse (drop x es) ++ e ∷ []) one
    ∙ sym (one_edge es 0 c.requires.some)

pub returns-clause-keys : goal.returns-clause-keys
returns-clause-keys c =
    let k : Start = c.args.self.now.start in
    subst (λ (qs : List LoopParcel). All (λ (q : LoopParcel). q.start.value ≡ k) qs) (sym c.push_reserved-2.ensures.items)
    (keys_push k c.loop-i.parcels.items c.new-parcel-2.result c.loop-i.invariant.keys c.new-parcel-2.ensures.1)
