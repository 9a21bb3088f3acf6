-- The lanes of a block, while they are dealt to their loops.
use Rattle.std.proofs.Common.{◌≡◌, ℕ, ◌+◌, ◌<◌, ◌≤◌, List, [], ◌∷◌, ◌++◌, length, map, set, get_or, refl, sym, ap, ◌∙◌, subst, arith, vec_capacity}
use Rattle.std.specs.Global.{Box}
use Rattle.std.proofs.lemmas.List.{length-append, map-append}
use Rattle.fv_split_plan.specs.TasksBeside.{Tasks}
use Rattle.fv_graph.proofs.lemmas.Counts.{get_set}
use Rattle.fv_split_plan.specs.headline.View.{PlanView, lane_info}
use Rattle.fv_lines.specs.declared.writer.LaneWriter.{LaneWriter}
use Rattle.fv_engine_codes.specs.Plans.{own_lanes}
use Rattle.fv_engine_codes.specs.declared.loop_cells.CellPlaces.{CellPlaces}
use Rattle.fv_engine_crew.specs.declared.content.Writers.{Writers}
use Rattle.fv_engine_crew.specs.Dealt.{AreDealt}
use Rattle.fv_engine_crew.specs.Rooms.{AreRooms}
use Rattle.fv_engine_crew.proofs.FirstLanes.{first_own, first_own_here, first_own_other, fewer_own}

-- the lists of loop j, with its lanes among the first n of these as its own ones, and all else as it was
pub record IsDealtSoFar (p : PlanView) (all : List LaneWriter) (n j : ℕ) (old new : Writers) : Type 0 where
  pub count : length new.lanes.own.items ≡ length (first_own p j n)
  pub own : (d : LaneWriter) → new.lanes.own.items ≡ map (λ l. get_or all l d) (first_own p j n)
  pub room : length (own_lanes p j) ≤ vec_capacity new.lanes.own
  pub seen : new.lanes.seen ≡ old.lanes.seen
  pub cells : new.lanes.cells ≡ old.lanes.cells
  pub scratch : new.scratch ≡ old.scratch
  pub lists : new.lists ≡ old.lists

-- so it is with each loop
abbrev pub AreDealtSoFar : PlanView → List LaneWriter → ℕ → List (Box Writers) → List (Box Writers) → Type 0
AreDealtSoFar p all n old new = (j : ℕ) (d : Box Writers) → j < p.loops → IsDealtSoFar p all n j (get_or old j d).value (get_or new j d).value

-- lists of a loop with one writer more
pub record HasOneMore (w : LaneWriter) (old new : Writers) : Type 0 where
  pub own : new.lanes.own.items ≡ old.lanes.own.items ++ w ∷ []
  pub room : vec_capacity new.lanes.own ≡ vec_capacity old.lanes.own
  pub seen : new.lanes.seen ≡ old.lanes.seen
  pub cells : new.lanes.cells ≡ old.lanes.cells
  pub scratch : new.scratch ≡ old.scratch
  pub lists : new.lists ≡ old.lists

module _ (p : PlanView) (all : List LaneWriter) where
  pub none_dealt : (g : Tasks) (places : CellPlaces) (rooms : List (Box Writers)) → AreRooms p g places rooms → AreDealtSoFar p all 0 rooms rooms
  none_dealt g places rooms a j d l =
      let r = a.each j d l in record {
        count = ap length r.nothing;
        own = λ e. r.nothing;
        room = r.own_room;
        seen = refl;
        cells = refl;
        scratch = refl;
        lists = refl;
      }

  -- there is room for the next lane
  pub room_for_next : (n : ℕ) (old new : Writers) → n < length p.lanes → IsDealtSoFar p all n (lane_info p n).owner old new
      → length new.lanes.own.items < vec_capacity new.lanes.own
  room_for_next n old new l s = omega (arith, s.count, fewer_own p (lane_info p n).owner n refl l, s.room)

  -- one lane more
  pub one_dealt : (n : ℕ) (old rooms : List (Box Writers)) (room : Box Writers) (w : LaneWriter) → (lane_info p n).owner < length rooms
      → ((d : LaneWriter) → get_or all n d ≡ w) → ((d : Box Writers) → HasOneMore w (get_or rooms (lane_info p n).owner d).value room.value)
      → AreDealtSoFar p all n old rooms → AreDealtSoFar p all (n + 1) old (set rooms (lane_info p n).owner room)
  one_dealt n old rooms room w there is more was j d l =
      let r : ℕ = (lane_info p n).owner in
      let now = was j d l in
      get_set (λ (b : Box Writers). IsDealtSoFar p all (n + 1) j (get_or old j d).value b.value) rooms r j room d there
      (λ same.
      let m : HasOneMore w (get_or rooms j d).value room.value =
      subst (λ (i : ℕ). HasOneMore w (get_or rooms i d).value room.value) (sym same) (more d) in
      record {
        count = omega (
          arith,
          ap length m.own,
          length-append (get_or rooms j d).value.lanes.own.items (w ∷ []),
          now.count,
          ap length (first_own_here p j n (sym same)),
          length-append (first_own p j n) (n ∷ []),
        );
        own = λ e. m.own ∙ ap (λ (xs : List LaneWriter). xs ++ w ∷ []) (now.own e)
            ∙ ap (λ (x : LaneWriter). map (λ i. get_or all i e) (first_own p j n) ++ x ∷ []) (sym (is e))
            ∙ sym (map-append (λ i. get_or all i e) (first_own p j n) (n ∷ [])) ∙ ap (map (λ i. get_or all i e)) (sym (first_own_here p j n (sym same)));
        room = omega (arith, now.room, m.room);
        seen = m.seen ∙ now.seen;
        cells = m.cells ∙ now.cells;
        scratch = m.scratch ∙ now.scratch;
        lists = m.lists ∙ now.lists;
      })
      (λ other. record {
        count = now.count ∙ ap length (sym (first_own_other p j n (λ q. other (sym q))));
        own = λ e. now.own e ∙ ap (map (λ i. get_or all i e)) (sym (first_own_other p j n (λ q. other (sym q))));
        room = now.room;
        seen = now.seen;
        cells = now.cells;
        scratch = now.scratch;
        lists = now.lists;
      })

  pub all_dealt : (n : ℕ) (old new : List (Box Writers)) → n ≡ length p.lanes → length new ≡ length old → AreDealtSoFar p all n old new
      → AreDealt p all old new
  all_dealt n old new e count was = record {
    count = count;
    each = λ j d l.
        let s = was j d l in
        record {
          count = s.count ∙ ap (λ (i : ℕ). length (first_own p j i)) e;
          own = λ c. s.own c ∙ ap (λ (i : ℕ). map (λ l. get_or all l c) (first_own p j i)) e;
          seen = s.seen;
          cells = s.cells;
          scratch = s.scratch;
          lists = s.lists;
        };
  }
