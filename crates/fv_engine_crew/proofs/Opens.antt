-- The loops of a block enter with the lists that their lanes are dealt to, and with their cells.
use Rattle.std.proofs.Common.{◌≡◌, ℕ, ◌-◌, ◌*◌, ◌<◌, true, List, length, get_or, refl, sym, ap, ◌∙◌, subst, arith, ltb, lt-ltb}
use Rattle.std.proofs.Common.{◌==◌, eq-eqb, vec_capacity, ℤ}
use Rattle.std.specs.Global.{Vec, Box}
use Rattle.std.specs.Prelude.{min}
use Rattle.std.proofs.lemmas.List.{get_or-map}
use Rattle.std.proofs.Math.Nat.{min-eq_left}
use Rattle.std.proofs.lemmas.Bool.{true≢false}
use Rattle.fv_graph.proofs.lemmas.Counts.{both_of}
use Rattle.fv_graph.proofs.lemmas.Grouping.{get_any}
use Rattle.fv_graph.proofs.lemmas.ReadsLemmas.{get_passing}
use Rattle.fv_loopcode.specs.Words.{argument}
use Rattle.fv_loopcode.specs.declared.step.Step.{Step}
use Rattle.fv_loopcode_machine.specs.Lanes.{no_lane}
use Rattle.fv_loopcode_machine.specs.Scratches.{IsNew, Serves}
use Rattle.fv_loopcode_machine.specs.declared.scratch.Scratch.{Scratch}
use Rattle.fv_split_plan.specs.Obeys.{OfLane, OfCells}
use Rattle.fv_split_plan.specs.ObeysBeside.{HoldsJust}
use Rattle.fv_split_plan.specs.headline.View.{PlanView, lane_info, cells_info, code_of, is_own}
use Rattle.fv_lines.specs.declared.seen.Seen.{Seen}
use Rattle.fv_lines.specs.declared.writer.LaneWriter.{LaneWriter}
use Rattle.fv_engine_codes.specs.Lanes.{lane_open}
use Rattle.fv_engine_codes.specs.Cells.{ArePlaced, AreCellsPlaced}
use Rattle.fv_engine_codes.specs.declared.loop_cells.CellPlaces.{CellPlaces}
use Rattle.fv_engine_codes.specs.declared.loop_cells.LoopCells.{LoopCells}
use Rattle.fv_engine_codes.specs.Plans.{own_lanes, sources_of, lanes_of_all, readers_of}
use Rattle.fv_engine_crew.specs.declared.start.Start.{Start}
use Rattle.fv_engine_crew.specs.declared.content.Writers.{Writers}
use Rattle.fv_engine_crew.specs.Contents.{tasks_in, upto, list_room, AreRoomy, AreCellsOf, AreHandedOn, SameWriter, IsWriterOf}
use Rattle.fv_engine_crew.specs.Dealt.{IsDealt}
use Rattle.fv_engine_crew.specs.Opening.{IsOpening, DealtRoomsEnter}
use Rattle.fv_engine_crew.specs.Rooms.{IsRoom, HasCells}
use Rattle.fv_engine_crew.specs.Swapped.{SameButCells, AreSwapped}
use Rattle.fv_engine_crew.proofs.Places.{cells_at, slot_at}

-- new scratch for a code serves it, whatever values are held
new_serves : (steps : List Step) (held : ℕ → ℤ) (s : Scratch) → IsNew (length steps) s → Serves steps held s
new_serves steps held s new = record {
  room = record { regs = new.regs; rows = new.rows; last = new.last };
  settled = λ e. absurd (true≢false (sym e ∙ new.settled));
}

module _ (k : Start) (opening : IsOpening k) where
  abbrev plan : PlanView
  plan = k.plan.now

  abbrev all : List LaneWriter
  all = k.lanes.value.items

  none_before : upto k 0 ≡ 0
  none_before = let z : min (0 * k.vector) k.frames ≡ 0 * k.vector = min-eq_left (omega arith) in omega (arith, z)

  -- each lane's writer, as the block begins
  writer_begins : (l : ℕ) (d : LaneWriter) → l < length plan.lanes → IsWriterOf k l 0 (get_or all l d)
  writer_begins l d m =
      let there : l < length all = omega (arith, m, opening.lanes) in
      record {
        same = λ e.
            let s : get_or all l d ≡ get_or all l e = get_any all l d e there in
            subst (SameWriter (get_or all l d)) s
            (record { part = refl; whole = refl; high = refl; history = refl; block = refl; len = refl; frames = refl });
        written = opening.unwritten l d m ∙ sym none_before;
        holds = λ f c.
            let j : ℕ = (lane_info plan l).owner in
            let own : is_own plan j (OfLane l) ≡ true =
            both_of (ltb l (length plan.lanes)) (j == j) (lt-ltb l (length plan.lanes) m) (eq-eqb j j refl) in
            subst (HoldsJust f l (upto k 0) (k.frames - upto k 0)) (get_or-map lane_open all l d no_lane there) (c.begins.holds j (OfLane l) own);
      }

  -- the cells of loop j, with which it enters
  module _ (j : ℕ) (old : Box Writers) (dealt given : List (Box Writers)) (left : List (Vec ℤ)) (d : Box Writers)
      (has : HasCells plan k.places.now j old.value.lanes.cells) (there : j < length given)
      (deals : (get_or dealt j d).value.lanes.cells ≡ old.value.lanes.cells) (same : SameButCells (get_or dealt j d).value (get_or given j d).value)
      (swapped : AreSwapped plan k.places.now.places.items k.cells.value.items left dealt given) where
    abbrev cs : LoopCells
    cs = (get_or given j d).value.lanes.cells

    plan_is : cs.plan.now ≡ plan
    plan_is = ap (λ p. p.now) same.plan ∙ ap (λ (c : LoopCells). c.plan.now) deals ∙ has.plan

    places_are : cs.places.now ≡ k.places.now
    places_are = ap (λ q. q.now) same.places ∙ ap (λ (c : LoopCells). c.places.now) deals ∙ has.places_are

    loop_is : cs.loop_no ≡ j
    loop_is = same.loop_no ∙ ap (λ (c : LoopCells). c.loop_no) deals ∙ has.loop_no

    placed : AreCellsPlaced cs
    placed =
        subst (λ (p : PlanView). ArePlaced p cs.places.now.places.items cs.places.now.counts.items) (sym plan_is)
        (subst (λ (q : CellPlaces). ArePlaced plan q.places.items q.counts.items) (sym places_are) opening.placed)

    cells_enter : AreCellsOf k j 0 cs
    cells_enter = record {
      plan = plan_is;
      places = places_are;
      loop_no = loop_is;
      placed = placed;
      room = omega (arith, same.count, ap (λ (c : LoopCells). length c.lists.items) deals, has.count);
      holds = λ f c i l e.
          let own : is_own plan j (OfCells i) ≡ true =
          both_of (ltb i (length plan.cells)) ((cells_info plan i).owner == j) (lt-ltb i (length plan.cells) l) (eq-eqb (cells_info plan i).owner j e) in
          cells_at k j cs plan_is places_are loop_is i l e
          ∙ sym (slot_at k.plan.now k.places.now.places.items given j d i there e)
          ∙ swapped.given i l ∙ c.begins.holds j (OfCells i) own;
    }

  -- what loop j enters with
  loop_enters : (j : ℕ) (old dealt new : Writers)
      → IsRoom (length (own_lanes plan j)) (length (lanes_of_all plan (sources_of (tasks_in k) j))) (length (code_of plan j))
      ((tasks_in k).vectors * readers_of (tasks_in k) j) old
      → IsDealt plan all j old dealt → SameButCells dealt new → AreCellsOf k j 0 new.lanes.cells → AreHandedOn k j 0 0 new
  loop_enters j old dealt new r s same cells =
      let own : new.lanes.own.items ≡ dealt.lanes.own.items = ap (λ (v : Vec LaneWriter). v.items) same.own in
      let seen : new.lanes.seen ≡ old.lanes.seen = same.seen ∙ s.seen in
      let lists : new.lists ≡ old.lists = same.lists ∙ s.lists in
      record {
        writers = record {
          count = ap length own ∙ s.count;
          each = λ i d m.
              let lane : ℕ = get_or (own_lanes plan j) i 0 in
              let high = (get_passing (λ l. (lane_info plan l).owner == j) 0 (length plan.lanes) i 0 m).high in
              let is : get_or new.lanes.own.items i d ≡ get_or all lane d =
              ap (λ (ws : List LaneWriter). get_or ws i d) (own ∙ s.own d) ∙ get_or-map (λ l. get_or all l d) (own_lanes plan j) i 0 d m in
              subst (IsWriterOf k lane 0) (sym is) (writer_begins lane d (omega (arith, high)));
        };
        cells = cells;
        nothing_seen = ap (λ (v : Vec Seen). v.items) seen ∙ r.nothing_seen;
        room = omega (arith, r.seen_room, ap (λ (v : Vec Seen). vec_capacity v) seen);
        scratch = ∣ subst (Serves (code_of plan j) (argument k.held.now)) (sym (same.scratch ∙ s.scratch))
            (new_serves (code_of plan j) (argument k.held.now) old.scratch r.scratch) ∣₁;
        lists =
            let all_left : (tasks_in k).vectors - 0 ≡ (tasks_in k).vectors = omega arith in
            λ many.
            omega (arith, ap (λ (v : ℕ). v * readers_of (tasks_in k) j) all_left, ap (λ (v : Vec (Vec Seen)). length v.items) lists, r.lists_are many);
        roomy = subst (λ (v : Vec (Vec Seen)). AreRoomy v.items (list_room (length (own_lanes plan j)))) (sym lists) r.roomy;
      }

pub rooms_enter : DealtRoomsEnter
rooms_enter k rooms dealt given left o rs ds sw = record {
  count = omega (arith, sw.count, ds.count, rs.count, o.loops);
  each = λ j d l.
      let low : j < k.plan.now.loops = omega (arith, l, o.loops) in
      let in_dealt : j < length dealt = omega (arith, low, ds.count, rs.count) in
      let in_given : j < length given = omega (arith, in_dealt, sw.count) in
      let same : SameButCells (get_or dealt j d).value (get_or given j d).value = sw.rest j d in_dealt in
      loop_enters k o j (get_or rooms j d).value (get_or dealt j d).value (get_or given j d).value (rs.each j d low) (ds.each j d low) same
      (cells_enter k o j (get_or rooms j d) dealt given left d (rs.cells j d low) in_given (ds.each j d low).cells same sw);
}
