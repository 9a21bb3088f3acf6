-- The lanes of a block, while they are taken back from their loops, from the last one on.
use Rattle.std.proofs.Common.{◌≡◌, ℕ, zero, suc, ◌+◌, ◌<◌, ◌≤◌, List, [], ◌∷◌, ◌++◌, length, set, get_or, refl, sym, ap, ◌∙◌, subst, arith}
use Rattle.std.specs.Prelude.{reverse}
use Rattle.std.specs.Global.{Box}
use Rattle.std.proofs.lemmas.List.{length-append, length-reverse, get_or_append_left, reverse-append}
use Rattle.std.proofs.Math.Seq.{get_or-append_seam}
use Rattle.fv_graph.proofs.lemmas.Counts.{get_set}
use Rattle.fv_split_plan.specs.headline.View.{PlanView, lane_info}
use Rattle.fv_split_plan.specs.declared.lane.LaneInfo.{LaneInfo}
use Rattle.fv_lines.specs.declared.writer.LaneWriter.{LaneWriter}
use Rattle.fv_engine_crew.specs.declared.start.Start.{Start}
use Rattle.fv_engine_crew.specs.declared.content.Writers.{Writers}
use Rattle.fv_engine_crew.specs.Contents.{tasks_in, IsWriterOf, AreWritersOf}
use Rattle.fv_engine_crew.specs.Entries.{AreLoopsLanes}
use Rattle.fv_engine_crew.specs.Collected.{AreAllWriters}
use Rattle.fv_engine_crew.proofs.FirstLanes.{first_own, first_own_here, first_own_other}

-- each loop has the writers of its lanes among the first n, and those of the lanes from there on are taken, the last one first
pub record AreBack (k : Start) (v n : ℕ) (ws : List (Box Writers)) (taken : List LaneWriter) : Type 0 where
  pub left : (j : ℕ) (d : Box Writers) → j < (tasks_in k).loops → AreWritersOf k (first_own k.plan.now j n) v (get_or ws j d).value.lanes.own.items
  pub back : (i : ℕ) (d : LaneWriter) → i < length (reverse taken) → IsWriterOf k (n + i) v (get_or (reverse taken) i d)

-- a lane is the last of those that are left, and these stand before it
pub record IsLastLane (p : PlanView) (next : List LaneInfo) (info : LaneInfo) : Type 0 where
  pub there : length next < length p.lanes
  pub is : lane_info p (length next) ≡ info
  pub lanes : (i : ℕ) (d : LaneInfo) → i < length next → get_or next i d ≡ get_or p.lanes i d

pub last_lane : (p : PlanView) (left next : List LaneInfo) (info : LaneInfo) → left ≡ next ++ info ∷ [] → length left ≤ length p.lanes
    → ((i : ℕ) (d : LaneInfo) → i < length left → get_or left i d ≡ get_or p.lanes i d) → IsLastLane p next info
last_lane p left next info steps few same =
    let long : length left ≡ length next + 1 = ap length steps ∙ length-append next (info ∷ []) in
    let none : LaneInfo = record { owner = 0; history = 0 } in
    record {
      there = omega (arith, long, few);
      is = sym (same (length next) none (omega (arith, long))) ∙ ap (λ (xs : List LaneInfo). get_or xs (length next) none) steps
          ∙ get_or-append_seam next info [] none;
      lanes = λ i d l. sym (get_or_append_left next (info ∷ []) d i l) ∙ ap (λ (xs : List LaneInfo). get_or xs i d) (sym steps)
          ∙ same i d (omega (arith, l, long));
    }

-- what writers say with one more at their end
record Popped (k : Start) (lanes : List ℕ) (l v : ℕ) (ws : List LaneWriter) (w : LaneWriter) : Type 0 where
  pub others : AreWritersOf k lanes v ws
  pub last : IsWriterOf k l v w

popped : (k : Start) (lanes : List ℕ) (l v : ℕ) (ws : List LaneWriter) (w : LaneWriter) → AreWritersOf k (lanes ++ l ∷ []) v (ws ++ w ∷ [])
    → Popped k lanes l v ws w
popped k lanes l v ws w a =
    let long : length (lanes ++ l ∷ []) ≡ length lanes + 1 = length-append lanes (l ∷ []) in
    let count : length ws ≡ length lanes = omega (arith, a.count, long, length-append ws (w ∷ [])) in
    let last : get_or (ws ++ w ∷ []) (length lanes) w ≡ w = ap (λ (i : ℕ). get_or (ws ++ w ∷ []) i w) (sym count) ∙ get_or-append_seam ws w [] w in
    record {
      others = record {
        count = count;
        each = λ i d m. subst (λ (u : LaneWriter). IsWriterOf k (get_or lanes i 0) v u) (get_or_append_left ws (w ∷ []) d i (omega (arith, m, count)))
            (subst (λ (n : ℕ). IsWriterOf k n v (get_or (ws ++ w ∷ []) i d)) (get_or_append_left lanes (l ∷ []) 0 i m)
            (a.each i d (omega (arith, m, long))));
      };
      last = subst (IsWriterOf k l v) last (subst (λ (n : ℕ). IsWriterOf k n v (get_or (ws ++ w ∷ []) (length lanes) w))
          (get_or-append_seam lanes l [] 0) (a.each (length lanes) w (omega (arith, long))));
    }

-- the writer of lane n before those of the lanes after it
one_before : (k : Start) (v n : ℕ) (w : LaneWriter) (ws : List LaneWriter) → IsWriterOf k n v w
    → ((i : ℕ) (d : LaneWriter) → i < length ws → IsWriterOf k (n + 1 + i) v (get_or ws i d))
    → (i : ℕ) (d : LaneWriter) → i < length (w ∷ ws) → IsWriterOf k (n + i) v (get_or (w ∷ ws) i d)
one_before k v n w ws is more zero d l = let e : n ≡ n + 0 = omega arith in subst (λ (m : ℕ). IsWriterOf k m v w) e is
one_before k v n w ws is more (suc i) d l =
    let e : n + 1 + i ≡ n + suc i = omega arith in subst (λ (m : ℕ). IsWriterOf k m v (get_or ws i d)) e (more i d (omega arith))

module _ (k : Start) (v n : ℕ) where
  pub none_back : (ws : List (Box Writers)) (taken : List LaneWriter) → n ≡ length k.plan.now.lanes → length taken ≡ 0 → AreLoopsLanes k v ws
      → AreBack k v n ws taken
  none_back ws taken all none a = record {
    left = λ j d l. subst (λ (m : ℕ). AreWritersOf k (first_own k.plan.now j m) v (get_or ws j d).value.lanes.own.items) (sym all) (a.each j d l);
    back = λ i d l. absurd (omega (arith, l, length-reverse taken, none));
  }

  -- the loop of the last lane that is left has a writer
  pub one_there : (ws : List (Box Writers)) (taken : List LaneWriter) (d : Box Writers) → (lane_info k.plan.now n).owner < (tasks_in k).loops
      → AreBack k v (n + 1) ws taken → 0 < length (get_or ws (lane_info k.plan.now n).owner d).value.lanes.own.items
  one_there ws taken d low b =
      let r : ℕ = (lane_info k.plan.now n).owner in
      omega (arith, (b.left r d low).count, ap length (first_own_here k.plan.now r n refl), length-append (first_own k.plan.now r n) (n ∷ []))

  -- one lane more
  pub one_back : (ws : List (Box Writers)) (taken : List LaneWriter) (w : LaneWriter) (room : Box Writers)
      → (lane_info k.plan.now n).owner < (tasks_in k).loops → (lane_info k.plan.now n).owner < length ws
      → ((d : Box Writers) → (get_or ws (lane_info k.plan.now n).owner d).value.lanes.own.items ≡ room.value.lanes.own.items ++ w ∷ [])
      → AreBack k v (n + 1) ws taken → AreBack k v n (set ws (lane_info k.plan.now n).owner room) (taken ++ w ∷ [])
  one_back ws taken w room low there own b =
      let p : PlanView = k.plan.now in
      let r : ℕ = (lane_info p n).owner in
      let last : Popped k (first_own p r n) n v room.value.lanes.own.items w =
      popped k (first_own p r n) n v room.value.lanes.own.items w
      (subst (λ (ls : List ℕ). AreWritersOf k ls v (room.value.lanes.own.items ++ w ∷ [])) (first_own_here p r n refl)
      (subst (AreWritersOf k (first_own p r (n + 1)) v) (own room) (b.left r room low))) in
      record {
        left = λ j d l. get_set (λ (x : Box Writers). AreWritersOf k (first_own p j n) v x.value.lanes.own.items) ws r j room d there
            (λ same. subst (λ (i : ℕ). AreWritersOf k (first_own p i n) v room.value.lanes.own.items) (sym same) last.others)
            (λ other. subst (λ (ls : List ℕ). AreWritersOf k ls v (get_or ws j d).value.lanes.own.items)
            (first_own_other p j n (λ q. other (sym q))) (b.left j d l));
        back = λ i d l.
            let e : reverse (taken ++ w ∷ []) ≡ w ∷ reverse taken = reverse-append taken (w ∷ []) in
            subst (λ (us : List LaneWriter). IsWriterOf k (n + i) v (get_or us i d)) (sym e)
            (one_before k v n w (reverse taken) last.last b.back i d (omega (arith, l, ap length e)));
      }

  pub all_back : (ws : List (Box Writers)) (taken : List LaneWriter) → n ≡ 0 → length (reverse taken) ≡ length k.plan.now.lanes → AreBack k v n ws taken
      → AreAllWriters k v (reverse taken)
  all_back ws taken none count b = record {
    count = count;
    each = λ l d m.
        let e : n + l ≡ l = omega (arith, none) in
        subst (λ (i : ℕ). IsWriterOf k i v (get_or (reverse taken) l d)) e (b.back l d (omega (arith, m, count)));
  }
