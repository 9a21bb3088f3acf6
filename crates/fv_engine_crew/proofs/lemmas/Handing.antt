-- What a task hands on.
use Rattle.std.proofs.Common.{◌≡◌, ℕ, zero, suc, ◌+◌, ◌-◌, ◌/◌, ◌<◌, ◌≤◌, List, [], ◌∷◌, ◌++◌, length, map}
use Rattle.std.proofs.Common.{nat_lt, drop, get_or, refl, sym, ap, ◌∙◌, subst, arith, Bool, true, false, true≢false, vec_capacity, inl, inr}
use Rattle.std.proofs.lemmas.Bool.{cases_lt, cond-false, le-ltb}
use Rattle.std.specs.Prelude.{reverse, All, slice_index}
use Rattle.std.specs.Global.{Vec, Box}
use Rattle.std.proofs.lemmas.List.{length-append, length-map, get_or_append_left, get_or-map, reverse-append}
use Rattle.std.proofs.Math.Seq.{drop-cons, get_or-append_seam}
use Rattle.fv_graph.specs.Graph.{stride, place_in, pair_at}
use Rattle.fv_loopcode.specs.headline.Lanes.{Lane, no_lane}
use Rattle.fv_loopcode.specs.Obeys.{HoldsJust}
use Rattle.fv_lines.specs.Seen.{lane_seen}
use Rattle.fv_lines.specs.declared.seen.Seen.{Seen}
use Rattle.fv_lines.specs.declared.writer.LaneWriter.{LaneWriter}
use Rattle.fv_engine_codes.specs.Plans.{own_lanes}
use Rattle.fv_engine_crew.specs.Contents.{tasks_in, upto, lanes_seen, list_room, AreWritersOf, AreSeenOf, AreRoomy, AreHandedOn, IsContent}
use Rattle.fv_lines.specs.Writer.{lane_written}
use Rattle.fv_engine_crew.specs.inner.Turns.{IsPairFrom, IsChainAt}
use Rattle.fv_engine_crew.specs.declared.start.Start.{Start}
use Rattle.fv_engine_crew.specs.declared.parcel.LoopParcel.{LoopParcel}
use Rattle.fv_engine_crew.specs.declared.content.Writers.{Writers}
use Rattle.fv_engine_crew.specs.declared.content.SeenLanes.{SeenLanes}
use Rattle.fv_engine_crew.specs.declared.content.Content.{Content as Holding}
use Rattle.fv_engine_crew.specs.declared.content.Content.TheVariants as holding

-- an element of a list
pub element : {X : Type 0} (xs : List X) (i : ℕ) → i < length xs → X
element [] i l = absurd (omega arith)
element (x ∷ xs) i l = x

pub seen_written : (k : Start) (lanes : List ℕ) (v : ℕ) (ws : List LaneWriter) (ss : List Seen) → map lane_seen ss ≡ map lane_written ws
    → AreWritersOf k lanes v ws → AreSeenOf k lanes v ss
seen_written k lanes v ws ss e a =
    let count : length ss ≡ length lanes = sym (length-map ss lane_seen) ∙ ap length e ∙ length-map ws lane_written ∙ a.count in
    record {
      count = count;
      each = λ i d m.
          let w : LaneWriter = element ws i (omega (arith, m, a.count)) in
          let is : lane_seen (get_or ss i d) ≡ lane_written (get_or ws i w) =
          sym (get_or-map lane_seen ss i d no_lane (omega (arith, m, count))) ∙ ap (λ (ls : List Lane). get_or ls i no_lane) e
          ∙ get_or-map lane_written ws i w no_lane (omega (arith, m, a.count)) in
          record {
            holds = λ f c.
                let h : HoldsJust f (slice_index lanes i) (upto k v) (k.frames - upto k v) _ = (a.each i w m).holds f c in
                subst (λ (l : Lane). HoldsJust f (slice_index lanes i) (upto k v) 0 l) (sym is) (record {
                  holds = record { history = h.holds.history; long = h.holds.long; same = h.holds.same };
                  just = h.just;
                  room = omega arith;
                });
          };
    }

abbrev is_seen : Holding → Bool
is_seen (holding.Writers w) = false
is_seen (holding.Seen ss) = true

abbrev seen_in : SeenLanes → Holding → SeenLanes
seen_in d (holding.Writers w) = d
seen_in d (holding.Seen ss) = ss

abbrev writers_in : Box Writers → Holding → Box Writers
writers_in d (holding.Writers w) = w
writers_in d (holding.Seen ss) = d

pub content_seen : (k : Start) (j v e : ℕ) (ss : SeenLanes) → IsPairFrom (tasks_in k) j v e
    → AreSeenOf k (own_lanes k.plan.now j) (v + 1) (lanes_seen ss)
    → IsContent k e (holding.Seen ss)
content_seen k j v e ss p a = record {
  writers = λ w q. absurd (true≢false (ap is_seen q));
  seen = λ ts q. (
    p.at.pair,
    subst (λ (t : SeenLanes). AreSeenOf k (own_lanes k.plan.now (pair_at (tasks_in k) (place_in (tasks_in k) e - (tasks_in k).loops)).source)
        (e / stride (tasks_in k) + 1) (lanes_seen t)) (ap (seen_in ss) q)
        (subst (λ (i : ℕ). AreSeenOf k (own_lanes k.plan.now i) (e / stride (tasks_in k) + 1) (lanes_seen ss)) (sym p.source)
        (subst (λ (n : ℕ). AreSeenOf k (own_lanes k.plan.now j) (n + 1) (lanes_seen ss)) (sym p.at.vector) a)),
  );
}

pub content_writers : (k : Start) (j v e : ℕ) (w : Box Writers) → IsChainAt (tasks_in k) j v e → AreHandedOn k j v 0 w.value → IsContent k e (holding.Writers w)
content_writers k j v e w c h = record {
  writers = λ u q. (
    omega (arith, c.inside, c.place),
    subst (λ (t : Box Writers). AreHandedOn k (place_in (tasks_in k) e) (e / stride (tasks_in k)) 0 t.value) (ap (writers_in w) q)
        (subst (λ (i : ℕ). AreHandedOn k i (e / stride (tasks_in k)) 0 w.value) (sym c.place)
        (subst (λ (n : ℕ). AreHandedOn k j n 0 w.value) (sym c.vector) h)),
  );
  seen = λ ss q. absurd (true≢false (sym (ap is_seen q)));
}

-- more than two lanes go in a list
pub many_room : (n : ℕ) → 3 ≤ n → list_room n ≡ n
many_room n l = cond-false (nat_lt n 3) 0 n (le-ltb n 3 l)

-- what lists say of which one was taken from the end
pub record Taken (lists : List (Vec Seen)) (l : Vec Seen) (room : ℕ) : Type 0 where
  pub others : AreRoomy lists room
  pub empty : l.items ≡ []
  pub roomy : room ≤ vec_capacity l

pub taken : (lists : List (Vec Seen)) (l : Vec Seen) (room : ℕ) → AreRoomy (lists ++ l ∷ []) room → Taken lists l room
taken lists l room r =
    let long : length (lists ++ l ∷ []) ≡ length lists + 1 = length-append lists (l ∷ []) in
    record {
      others = record {
        empty = λ i d m. subst (λ (v : Vec Seen). v.items ≡ []) (get_or_append_left lists (l ∷ []) d i m) (r.empty i d (omega (arith, m, long)));
        roomy = λ i d m. subst (λ (v : Vec Seen). room ≤ vec_capacity v) (get_or_append_left lists (l ∷ []) d i m) (r.roomy i d (omega (arith, m, long)));
      };
      empty = subst (λ (v : Vec Seen). v.items ≡ []) (get_or-append_seam lists l [] l) (r.empty (length lists) l (omega (arith, long)));
      roomy = subst (λ (v : Vec Seen). room ≤ vec_capacity v) (get_or-append_seam lists l [] l) (r.roomy (length lists) l (omega (arith, long)));
    }

-- one edge more, from the end
pub one_edge : (es : List ℕ) (n : ℕ) → n < length es → reverse (drop n es) ≡ reverse (drop (suc n) es) ++ get_or es n 0 ∷ []
one_edge es n l = ap reverse (drop-cons es n 0 l) ∙ reverse-append (get_or es n 0 ∷ []) (drop (suc n) es)

pub drop_all : (es : List ℕ) (n : ℕ) → length es ≤ n → drop n es ≡ []
drop_all [] zero l = refl
drop_all [] (suc n) l = refl
drop_all (e ∷ es) zero l = absurd (omega arith)
drop_all (e ∷ es) (suc n) l = drop_all es n (omega arith)

-- one parcel more
pub edges_push : (ps : List LoopParcel) (p : LoopParcel) (e : ℕ) → p.edge ≡ e
    → map (λ (q : LoopParcel). q.edge) (ps ++ p ∷ []) ≡ map (λ (q : LoopParcel). q.edge) ps ++ e ∷ []
edges_push [] p e q = ap (λ (x : ℕ). x ∷ []) q
edges_push (r ∷ rs) p e q = ap (λ (xs : List ℕ). r.edge ∷ xs) (edges_push rs p e q)

pub keys_push : (k : Start) (ps : List LoopParcel) (p : LoopParcel) → All (λ (q : LoopParcel). q.start.value ≡ k) ps → p.start.value ≡ k
    → All (λ (q : LoopParcel). q.start.value ≡ k) (ps ++ p ∷ [])
keys_push k ps p a e = λ i d m. elim (cases_lt i (length ps)) [
  | inl l ↦ ap (λ (q : LoopParcel). q.start.value) (get_or_append_left ps (p ∷ []) d i l) ∙ a i d l
  | inr le ↦
      let z : i ≡ length ps = omega (arith, m, le, length-append ps (p ∷ [])) in
      ap (λ (x : ℕ). (get_or (ps ++ p ∷ []) x d).start.value) z ∙ ap (λ (q : LoopParcel). q.start.value) (get_or-append_seam ps p [] d) ∙ e
]
