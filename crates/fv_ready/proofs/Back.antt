-- A seat gives back all the slots that it has, whatever task it is in, and the rule stays.
use Rattle.std.proofs.Common.{◌≡◌, ℕ, zero, suc, ◌+◌, ◌<◌, ◌≤◌, Bool, true, false, ◌⊎◌, ◌||◌, inl}
use Rattle.std.proofs.Common.{inr, ⊎_elim, List, [], ◌∷◌, refl, sym, ap, ◌∙◌, arith, Option, Some, true≢false}
use mathlib.Core.Option.{some, some-ne-none, some-injective}
use mathlib.Core.Logic.{dite}
use native.Mathlib.Decide.{ℕ_discrete}
use lib.ListN.{get_elem?}
use Rattle.atomic_table.specs.Table.{State, homes_after}
use Rattle.fv_graph.specs.Tasks.{bit, total}
use Rattle.fv_graph.specs.TasksBeside.{times}
use Rattle.fv_graph.specs.Wires.{Wires, IsWires}
use Rattle.fv_graph.specs.Graph.{Graph}
use Rattle.fv_ready.specs.declared.view.Deed.{Deed}
use Rattle.fv_ready.specs.declared.view.About.{About}
use Rattle.fv_ready.specs.declared.view.View.{View}
use Rattle.fv_ready.specs.Rule.{wins, arrives, finishes, done_by, all, IsKept}
use Rattle.fv_ready.proofs.lemmas.Claim.{all_at, into, out_of, inner_in, no_exit, sent}
use Rattle.fv_ready.specs.Rule.{places, Each}
use Rattle.fv_ready.specs.Carried.{IsMine, HasKey}
use Rattle.fv_ready.proofs.lemmas.Taking.{each_at, give_all, others_stay, length_gives, home_then}

rest_le : {C : Type 0} (f g : Deed → ℕ) (views : List (View C)) → ((j : ℕ) (u : View C) → get_elem? views j ≡ some u → done_by f u ≤
    done_by g u) → all f views ≤ all g views
rest_le f g [] h = omega arith
rest_le f g (x ∷ xs) h = let p = h 0 x refl in let r = rest_le f g xs (λ j u k. h (suc j) u k) in omega arith

or_of : (a b : Bool) → (a || b) ≡ true → (a ≡ true) ⊎ (b ≡ true)
or_of true b e = inl refl
or_of false b e = inr e

apart_entry : {C : Type 0} (wires : Graph → Wires) (a : About C) → IsWires (wires a.tasks.value) → (e : ℕ) → (wires a.tasks.value).is_entry
    e ≡ true → ((wires a.tasks.value).net.is_inner e || (wires a.tasks.value).is_exit e) ≡ true → ⊥
apart_entry wires a ws e is other = let w = wires a.tasks.value in let p = ws.apart e in let z : bit (w.is_entry e) ≡ 1 = ap bit is in
    ⊎_elim (λ i. let y : bit (w.net.is_inner e) ≡ 1 = ap bit i in omega arith) (λ i. let y : bit (w.is_exit e) ≡ 1 = ap bit i in
    omega arith) (or_of (w.net.is_inner e) (w.is_exit e) other)

-- what the others did of f is no more than what they did of g
pub all_gap : {C : Type 0} (f g : Deed → ℕ) (views : List (View C)) (id : ℕ) (v : View C) → get_elem? views id ≡ some v →
    ((j : ℕ) (u : View C) → get_elem? views j ≡ some u → done_by f u ≤ done_by g u)
    → all f views + done_by g v ≤ all g views + done_by f v
all_gap f g [] id v at h = absurd (some-ne-none v (sym at))
all_gap {C} f g (x ∷ xs) zero v at h = let e = some-injective x v at in
    let a : total f x.deeds ≡ total f v.deeds = ap (λ (y : View C). total f y.deeds) e in
    let b : total g x.deeds ≡ total g v.deeds = ap (λ (y : View C). total g y.deeds) e in
    let r = rest_le f g xs (λ j u k. h (suc j) u k) in omega arith
all_gap f g (x ∷ xs) (suc id) v at h = let r = all_gap f g xs id v at (λ j u k. h (suc j) u k) in let p = h 0 x refl in omega arith

module _ {C Key : Type 0} (wires : Graph → Wires) (edge_of : C → ℕ) (key_of : C → Key) (a : About C) (v : View C) where
  abbrev Mine : ℕ → Type 0
  Mine = IsMine wires edge_of key_of a v

  abbrev Keyed : Option C → Type 0
  Keyed = HasKey wires edge_of key_of a v

  pub back : (ws : IsWires (wires a.tasks.value)) (s : State (Option C) (View C)) (h : IsKept wires edge_of key_of a s) (id : ℕ)
      (at : get_elem? s.views id ≡ some v) (ab : v.board ≡ Some a)
      (c : List (ℕ × Option C)) → Each (λ e _. Mine e) c → Each (λ _ x. Keyed x) c → IsKept wires edge_of key_of a record
      { words = s.words; homes = homes_after s.homes c (give_all c); views = s.views }
  back ws s h id at ab c mine keys =
      let w = wires a.tasks.value in
      let own = h.own id v at in
      let arr : (e : ℕ) → all (arrives e) s.views + done_by (wins (w.net.source e)) v ≤ all (wins (w.net.source e)) s.views + done_by (arrives e) v =
      λ e. all_gap (arrives e) (wins (w.net.source e)) s.views id v at (λ j u k. (h.own j u k).arrived_won e) in
      let fin : (t : ℕ) → all (finishes t) s.views + done_by (wins t) v ≤ all (wins t) s.views + done_by (finishes t) v =
      λ t. all_gap (finishes t) (wins t) s.views id v at (λ j u k. let x = (h.own j u k).finished_started t in
      let y = (h.own j u k).started_won t in omega arith) in
      let away : (e : ℕ) → (Mine e → ⊥) → get_elem? (homes_after s.homes c (give_all c)) e ≡ get_elem? s.homes e =
      λ e no. others_stay c s.homes e (dite (ℕ_discrete (times e (places c)) 0) (λ z. z) (λ n. absurd (no (each_at Mine c e mine (omega arith))))) in
      record {
        words_long = h.words_long;
        homes_long = length_gives c s.homes ∙ h.homes_long;
        same = h.same;
        own = h.own;
        stamped = h.stamped;
        won_once = h.won_once;
        claimed = h.claimed;
        lost = h.lost;
        counted = h.counted;
        arrived_once = h.arrived_once;
        seen = h.seen;
        empty_slots = λ e he no none. away e (λ m.
            let saw = own.won_seen m.0 m.2 in
            ⊎_elim
            (λ (i : 0 < times e (w.inward m.0)). ⊎_elim (λ (k : w.is_entry e ≡ true). absurd (true≢false (sym k ∙ no)))
            (λ (k : all (arrives e) s.views ≡ 1). let p = sent wires edge_of key_of a ws s h id v at ab m.0 m.0 refl m.1 saw e in
            omega arith) (inner_in wires edge_of key_of a ws s h id v at ab m.0 m.0 refl m.1 saw e i))
            (λ (o : (0 < times e (w.outward m.0)) × (done_by (arrives e) v ≡ 0) × (w.is_exit e ≡ true → done_by (finishes m.0) v ≡ 0)).
            let q = out_of wires edge_of key_of a ws s h id v at ab m.0 m.0 refl m.1 saw e o.0 in
            let r = all_at (wins m.0) s.views id v at in
            let z : all (wins (w.net.source e)) s.views ≡ all (wins m.0) s.views = ap (λ k. all (wins k) s.views) q.0 in
            omega arith) m.3) ∙ h.empty_slots e he no none;
        full_slots = λ e come none. let p = h.full_slots e come none in (
          p.0,
          away e (λ m.
              let saw = own.won_seen m.0 m.2 in
              ⊎_elim
              (λ (i : 0 < times e (w.inward m.0)). let q = into wires edge_of key_of a ws s h id v at ab m.0 m.0 refl m.1 saw e i in
              let r = all_at (wins m.0) s.views id v at in
              let z : all (wins (w.net.reader e)) s.views ≡ all (wins m.0) s.views = ap (λ k. all (wins k) s.views) q in omega arith)
              (λ (o : (0 < times e (w.outward m.0)) × (done_by (arrives e) v ≡ 0) × (w.is_exit e ≡ true → done_by (finishes m.0) v ≡ 0)).
              let q = out_of wires edge_of key_of a ws s h id v at ab m.0 m.0 refl m.1 saw e o.0 in
              ⊎_elim (λ (k : w.is_entry e ≡ true). apart_entry wires a ws e k q.1)
              (λ (k : all (arrives e) s.views ≡ 1). let g = arr e in let y = h.won_once m.0 in
              let z : all (wins (w.net.source e)) s.views ≡ all (wins m.0) s.views = ap (λ k. all (wins k) s.views) q.0 in
              let z' : done_by (wins (w.net.source e)) v ≡ done_by (wins m.0) v = ap (λ k. done_by (wins k) v) q.0 in let n = o.1 in
              let mm = m.2 in omega arith) come) m.3) ∙ p.1,
          p.2,
        );
        exit_slots = λ e is one. let p = h.exit_slots e is one in (
          p.0,
          away e (λ m.
              let saw = own.won_seen m.0 m.2 in
              ⊎_elim
              (λ (i : 0 < times e (w.inward m.0)). no_exit wires edge_of key_of a ws s h id v at ab m.0 m.0 refl m.1 saw e is i)
              (λ (o : (0 < times e (w.outward m.0)) × (done_by (arrives e) v ≡ 0) × (w.is_exit e ≡ true → done_by (finishes m.0) v ≡ 0)).
              let q = out_of wires edge_of key_of a ws s h id v at ab m.0 m.0 refl m.1 saw e o.0 in
              let g = fin m.0 in let y = h.won_once m.0 in
              let z : all (finishes (w.net.source e)) s.views ≡ all (finishes m.0) s.views = ap (λ k. all (finishes k) s.views) q.0 in
              let n = o.2 is in let mm = m.2 in omega arith) m.3) ∙ p.1,
          p.2,
        );
        keyed = λ e p is. home_then (λ _ x. Keyed x) c s.homes e (Some p)
            (λ k x at' q r. h.keyed k q (at' ∙ ap (λ (y : Option C). some (some y)) r)) keys is p refl;
      }
