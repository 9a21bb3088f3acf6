-- Each lane that a loop sees stands once among them, and each lane that its code names does.
use Rattle.std.proofs.Common.{◌≡◌, ◌≢◌, ℕ, ◌<◌, ◌≤◌, Bool, true, List, []}
use Rattle.std.proofs.Common.{◌∷◌, length, refl, sym, ap, ◌∙◌, arith, ltb, ltb-true, eq-eqb, inl, inr}
use Rattle.std.specs.Prelude.{◌==◌, ◌&&◌, nat_lt, nat_eq}
use Rattle.std.proofs.lemmas.List.{length-map, get_or-map}
use mathlib.Core.Logic.{dite}
use native.Mathlib.Decide.{ℕ_discrete, dec_le}
use Rattle.fv_outside.specs.headline.Tasks.{Tasks, bit, reads_loop}
use Rattle.fv_outside.specs.Tasks.{times}
use Rattle.fv_graph.specs.Words.{passing}
use Rattle.fv_graph.specs.Graph.{IsGraph, pair_at}
use Rattle.fv_graph.proofs.lemmas.Counts.{bit_le, bit_same, bit_apart, bit_swap, bit_true, both_true, eq_of, one_of, map_miss, times_above, times_passing}
use Rattle.fv_graph.proofs.lemmas.ReadsLemmas.{map_rises, rises_once, stands, place, loop_place}
use Rattle.fv_graph.proofs.lemmas.Few.{few}
use Rattle.fv_loopcode.specs.headline.Obeys.{OfLane}
use Rattle.fv_split_plan.specs.headline.View.{PlanView, lane_info, roles_of}
use Rattle.fv_split_plan.specs.headline.Plans.{PlanReads}
use Rattle.fv_engine_codes.specs.Renumbered.{IsNamed}
use Rattle.fv_engine_codes.specs.Plans.{own_lanes, sources_of, lanes_of_all, locals_of}
use Rattle.fv_engine_codes.specs.Codes.{AreOfPlan}
use Rattle.fv_engine_codes.specs.inner.Numbered.{AreOnce}
use Rattle.fv_engine_codes.proofs.Numbering.{times_append}

-- the loop of a lane
abbrev pub owner : PlanView → ℕ → ℕ
owner p l = (lane_info p l).owner

pub times_own : (p : PlanView) (i l : ℕ) → l < length p.lanes → times l (own_lanes p i) ≡ bit (owner p l == i)
times_own p i l m = times_passing (λ l. (lane_info p l).owner == i) 0 (length p.lanes) l (omega arith) (omega arith)

own_outside : (p : PlanView) (i l : ℕ) → length p.lanes ≤ l → times l (own_lanes p i) ≡ 0
own_outside p i l m = times_above (λ l. (lane_info p l).owner == i) 0 (length p.lanes) l (omega arith)

-- a lane stands among those of these loops as often as its loop among these
pub times_lanes : (p : PlanView) (l : ℕ) → l < length p.lanes → (is : List ℕ) → times l (lanes_of_all p is) ≡ times (owner p l) is
times_lanes p l m [] = refl
times_lanes p l m (i ∷ is) =
    let a = times_append l (own_lanes p i) (lanes_of_all p is) in
    let o = times_own p i l m in
    let s = bit_swap (owner p l) i in
    let r = times_lanes p l m is in omega arith

lanes_outside : (p : PlanView) (l : ℕ) → length p.lanes ≤ l → (is : List ℕ) → times l (lanes_of_all p is) ≡ 0
lanes_outside p l m [] = refl
lanes_outside p l m (i ∷ is) =
    let a = times_append l (own_lanes p i) (lanes_of_all p is) in
    let o = own_outside p i l m in
    let r = lanes_outside p l m is in omega arith

module _ (g : Tasks) (j : ℕ) (graph : IsGraph g) where
  abbrev into : ℕ → Bool
  into k = (pair_at g k).reader == j

  abbrev from : ℕ → ℕ
  from k = (pair_at g k).source

  rising : (a b : ℕ) → a < b → b < length g.reads → into a ≡ true → into b ≡ true → from a < from b
  rising a b l m s t =
      let x = eq_of (pair_at g a).reader j s in
      let y = eq_of (pair_at g b).reader j t in
      one_of (ltb (pair_at g a).reader (pair_at g b).reader) (((pair_at g a).reader == (pair_at g b).reader) && ltb (from a) (from b)) (from a < from b)
      (graph.rising a b l m)
      (λ h. let z = ltb-true (pair_at g a).reader (pair_at g b).reader h in absurd (omega arith))
      (λ h. ltb-true (from a) (from b) (both_true ((pair_at g a).reader == (pair_at g b).reader) (ltb (from a) (from b)) h).1)

  once_read : AreOnce (sources_of g j)
  once_read = rises_once (sources_of g j) (map_rises from into 0 (length g.reads) (λ a b l m. rising a b l (omega (arith, m))))

  apart : (k : ℕ) → 0 < times k (passing into 0 (length g.reads)) → from k ≢ j
  apart k h = dite (dec_le (length g.reads) k)
      (λ l. let z = times_above into 0 (length g.reads) k (omega (arith, l)) in absurd (omega arith))
      (λ l.
      let z : times k (passing into 0 (length g.reads)) ≡ bit (into k) = times_passing into 0 (length g.reads) k (omega arith) (omega (arith, l)) in
      let e = eq_of (pair_at g k).reader j (bit_true (into k) (omega arith)) in
      let low = (graph.in_order k (omega (arith, l))).0 in
      λ q. absurd (omega (arith, low, e, q)))

  -- the loop itself and those that it reads stand once
  pub loops_once : AreOnce (j ∷ sources_of g j)
  loops_once i = dite (ℕ_discrete j i)
      (λ e.
      let z = map_miss from j (passing into 0 (length g.reads)) apart in
      let y : times i (sources_of g j) ≡ 0 = ap (λ (x : ℕ). times x (sources_of g j)) (sym e) ∙ z in
      let b = bit_le (j == i) in omega arith)
      (λ n. let b = bit_apart j i n in let o = once_read i in omega arith)

  pub stands_read : (i : ℕ) → reads_loop g.reads j i ≡ true → 0 < times i (sources_of g j)
  stands_read i r =
      let at = loop_place g.reads j i r in
      let k : ℕ = at.0 in
      let ks : List ℕ = passing into 0 (length g.reads) in
      let passes : into k ≡ true = eq-eqb (pair_at g k).reader j at.1.reader in
      let one : times k ks ≡ bit (into k) = times_passing into 0 (length g.reads) k (omega arith) (let t = at.1.there in omega arith) in
      let some : 0 < times k ks = omega (arith, one, ap bit passes) in
      let m = place ks k some in
      stands (sources_of g j) i m.0 0 (let l = length-map ks from in let t = m.1 in omega arith)
      (get_or-map from ks m.0 0 0 m.1 ∙ ap from m.2 ∙ at.1.source)

module _ (p : PlanView) (g : Tasks) (j : ℕ) (graph : IsGraph g) where
  pub lanes_once : AreOnce (locals_of p g j)
  lanes_once l = dite (dec_le (length p.lanes) l)
      (λ m. let z = lanes_outside p l m (j ∷ sources_of g j) in omega arith)
      (λ m. let z = times_lanes p l (omega (arith, m)) (j ∷ sources_of g j) in let o = loops_once g j graph (owner p l) in omega arith)

  -- so they are no more than all lanes
  pub lanes_few : length (locals_of p g j) ≤ length p.lanes
  lanes_few = few (length p.lanes) (locals_of p g j) lanes_once (λ l m. lanes_outside p l m (j ∷ sources_of g j))

-- a lane that a loop's code names is there, and of the loop itself or of one that it reads
pub record IsSeenBy (p : PlanView) (g : Tasks) (j l : ℕ) : Type 0 where
  pub there : l < length p.lanes
  pub seen : 0 < times l (locals_of p g j)

pub own_seen : (p : PlanView) (j l : ℕ) → (roles_of p j).own (OfLane l) ≡ true → (l < length p.lanes) × (owner p l ≡ j)
own_seen p j l o =
    let b = both_true (nat_lt l (length p.lanes)) (nat_eq (owner p l) j) o in (ltb-true l (length p.lanes) b.0, eq_of (owner p l) j b.1)

seen_of : (p : PlanView) (g : Tasks) (j l : ℕ) → l < length p.lanes → 0 < times (owner p l) (j ∷ sources_of g j) → IsSeenBy p g j l
seen_of p g j l m s = record { there = m; seen = let z = times_lanes p l m (j ∷ sources_of g j) in omega arith }

pub named_seen : (p : PlanView) (g : Tasks) (j l : ℕ) → IsGraph g → PlanReads p → AreOfPlan p g → IsNamed (roles_of p j) l → IsSeenBy p g j l
named_seen p g j l graph reads of (inl o) =
    let w = own_seen p j l o in seen_of p g j l w.0 (let b = bit_same j (owner p l) (sym w.1) in omega arith)
named_seen p g j l graph reads of (inr o) =
    let m : l < length p.lanes = reads.loaded j l o in
    dite (ℕ_discrete (owner p l) j)
    (λ e. seen_of p g j l m (let b = bit_same j (owner p l) (sym e) in omega arith))
    (λ n. seen_of p g j l m
    (let r = stands_read g j graph (owner p l) (of.pairs j (owner p l) ∙ (reads.exact j (owner p l)).1 (n, l, m, o, refl)) in omega arith))
