-- An arrival keeps the rule.
use Rattle.std.proofs.Common.{◌≡◌, ◌≢◌, ℕ, ◌+◌, ◌-◌, ◌%◌, ◌^◌, ◌<◌, ◌≤◌, Bool, true, ◌⊎◌, ◌||◌, inl, inr, ⊎_elim, []}
use Rattle.std.proofs.Common.{◌∷◌, ◌++◌, length, set, slice_index, refl, sym, ap, ◌∙◌, subst, arith, Option, Some, ◌==◌, ltb, length-set, get_or-set_same}
use mathlib.Core.Option.{some, some-injective}
use mathlib.Core.Logic.{dite}
use native.Mathlib.Decide.{ℕ_discrete}
use lib.ListN.{get_elem?}
use Rattle.atomic_table.specs.Table.{State}
use Rattle.atomic_table.proofs.Lists.{at_set, set_here, set_else}
use Rattle.fv_graph.specs.Tasks.{bit, total}
use Rattle.fv_graph.specs.TasksBeside.{times}
use Rattle.fv_graph.proofs.lemmas.Counts.{bit_same, bit_swap, bit_apart, bit_le, total_append, total_add, get_set, spare}
use Rattle.fv_graph.proofs.lemmas.Counts.{bit_left}
use Rattle.fv_graph.specs.Wires.{Wires, IsWires}
use Rattle.fv_graph.specs.Graph.{Graph}
use Rattle.fv_ready.specs.declared.view.Deed.TheVariants.{Arrived}
use Rattle.fv_ready.specs.declared.view.About.{About}
use Rattle.fv_ready.specs.declared.view.View.{View}
use Rattle.fv_ready.specs.Rule.{count_word, claim_word, wins, loses, sees, arrives, stamps, starts, finishes, done_by, all, noted, IsSpent, IsOwn, Fits}
use Rattle.fv_ready.specs.Rule.{IsKept}
use Rattle.fv_ready.proofs.lemmas.Claim.{all_noted, all_at, total_ext}
use Rattle.fv_ready.proofs.Back.{all_gap}

pub one_less : (n : ℕ) → 0 < n → n < 18446744073709551616 → (n + (2 ^ 64 - 1)) % 2 ^ 64 ≡ n - 1
one_less n h l = omega arith

swapped : (a b : ℕ) → bit (a == b) ≡ bit (b == a)
swapped a b = bit_swap a b

module _ {C Key : Type 0} (wires : Graph → Wires) (edge_of : C → ℕ) (key_of : C → Key) (a : About C) (ws : IsWires (wires a.tasks.value))
    (s : State (Option C) (View C)) (h : IsKept wires edge_of key_of a s)
    (id : ℕ) (v : View C) (at : get_elem? s.views id ≡ some v) (ab : v.board ≡ Some a)
    (e c : ℕ) (x : Option C) (inner : (wires a.tasks.value).net.is_inner e ≡ true)
    (won : 0 < done_by (wins ((wires a.tasks.value).net.source e)) v) (new : done_by (arrives e) v ≡ 0) (fits : Fits wires edge_of key_of a e x) where
  fits_key : (y : Option C) → Fits wires edge_of key_of a e y → (p : C) → y ≡ Some p → key_of p ≡ key_of a.sample.value
  fits_key y f p is = let q : p ≡ f.0 = cc (is, f.1) in ap key_of q ∙ f.3

  abbrev r : ℕ
  r = (wires a.tasks.value).net.reader e

  abbrev n : ℕ
  n = slice_index s.words (count_word r)

  pub low : (r < (wires a.tasks.value).net.tasks) × ((wires a.tasks.value).net.source e < r)
  low = let p = ws.is_net.rises e inner in (p.1, p.0)

  -- nobody has arrived there
  pub none_came : all (arrives e) s.views ≡ 0
  none_came = let g = all_gap (arrives e) (wins ((wires a.tasks.value).net.source e)) s.views id v at (λ j u k. (h.own j u k).arrived_won e) in
      let o = h.won_once ((wires a.tasks.value).net.source e) in omega arith

  once : (t : ℕ) → t < (wires a.tasks.value).net.tasks → times e ((wires a.tasks.value).net.needs t) ≡ bit (r == t)
  once t there = ws.is_net.needs_once t e there ∙ bit_left ((wires a.tasks.value).net.is_inner e) (r == t) inner

  pub some_left : 0 < n
  some_left = let p = spare (λ y. all (arrives y) s.views) (λ y. let o = h.arrived_once y in omega arith) e none_came ((wires a.tasks.value).net.needs r) in
      let q = h.counted r low.0 in let o = once r low.0 in let z = bit_same r r refl in omega arith

  pub in_words : count_word r < length s.words
  in_words = let l = h.words_long in let p = low in omega arith

  pub word_else : (j : ℕ) → j ≢ count_word r → slice_index (set s.words (count_word r) (n - 1)) j ≡ slice_index s.words j
  word_else j ne = get_set (λ k. k ≡ slice_index s.words j) s.words (count_word r) j (n - 1) 0 in_words (λ q. absurd (ne q)) (λ _. refl)

  in_homes : e < length s.homes
  in_homes = let p = ws.in_range e (ap (λ (b : Bool). b || (wires a.tasks.value).is_entry e || (wires a.tasks.value).is_exit e) inner) in
      let l = h.homes_long in omega arith

  own_after : IsOwn (wires a.tasks.value).net (noted v (Arrived e c))
  own_after = let o = h.own id v at in let d = Arrived e c in record {
    won_seen = λ t pos. let k = total_append (wins t) v.deeds (d ∷ []) in let l = total_append (sees t) v.deeds (d ∷ []) in
        let q = o.won_seen t (omega arith) in omega arith;
    arrived_won = λ y. let k = total_append (wins ((wires a.tasks.value).net.source y)) v.deeds (d ∷ []) in let l = total_append (arrives y) v.deeds (d ∷ []) in
        dite (ℕ_discrete e y)
        (λ q. subst (λ z. total (arrives z) (v.deeds ++ d ∷ []) ≤ total (wins ((wires a.tasks.value).net.source z)) (v.deeds ++ d ∷ [])) q
        (let k' = total_append (wins ((wires a.tasks.value).net.source e)) v.deeds (d ∷ []) in
        let l' = total_append (arrives e) v.deeds (d ∷ []) in let z = bit_same e e refl in omega arith))
        (λ ne. let z = bit_apart e y ne in let q = o.arrived_won y in omega arith);
    started_won = λ t. let k = total_append (wins t) v.deeds (d ∷ []) in let l = total_append (starts t) v.deeds (d ∷ []) in
        let q = o.started_won t in omega arith;
    finished_started = λ t. let k = total_append (finishes t) v.deeds (d ∷ []) in let l = total_append (starts t) v.deeds (d ∷ []) in
        let q = o.finished_started t in omega arith;
  }

  pub arrives_kept : IsKept wires edge_of key_of a record {
    words = set s.words (count_word r) (n - 1);
    homes = set s.homes e (some x);
    views = set s.views id (noted v (Arrived e c));
  }
  arrives_kept =
      let w = wires a.tasks.value in
      let d = Arrived e c in
      let A : (y : ℕ) → all (arrives y) (set s.views id (noted v d)) ≡ all (arrives y) s.views + bit (e == y) = λ y. all_noted (arrives y) s.views id v d at in
      let W : (t : ℕ) → all (wins t) (set s.views id (noted v d)) ≡ all (wins t) s.views = λ t. let k = all_noted (wins t) s.views id v d at in omega arith in
      let F : (t : ℕ) → all (finishes t) (set s.views id (noted v d)) ≡ all (finishes t) s.views = λ t. let k = all_noted (finishes t)
      s.views id v d at in omega arith in
      let each : (P : View C → Type 0) → P (noted v d) → ((j : ℕ) (y : View C) → get_elem? s.views j ≡ some y → P y) → (j : ℕ) (y : View C)
      → get_elem? (set s.views id (noted v d)) j ≡ some y → P y =
      λ P here others j y q. ⊎_elim (λ (z : (j ≡ id) × (noted v d ≡ y)). subst P z.1 here) (λ z. others j y z.1) (at_set s.views id j (noted v d) y q) in
      let sent : all (wins (w.net.source e)) s.views ≢ 0 = λ z. let k = all_at (wins (w.net.source e)) s.views id v at in omega arith in
      record {
        words_long = length-set s.words (count_word r) (n - 1) ∙ h.words_long;
        homes_long = length-set s.homes e (some x) ∙ h.homes_long;
        same = each (λ y. (y.board ≡ Some a) ⊎ IsSpent y) (inl ab) h.same;
        own = each (λ y. IsOwn w.net y) own_after h.own;
        stamped = λ k. let q = all_noted (stamps k) s.views id v d at in let p = h.stamped k in
            let z = ap (λ (m : ℕ). bit (ltb k m)) (word_else 0 (λ q. omega arith)) in omega arith;
        won_once = λ t. let q = W t in let p = h.won_once t in omega arith;
        claimed = λ t there. word_else (claim_word w.net.tasks t) (λ q. let p = low in omega arith) ∙ h.claimed t there ∙ sym (W t);
        lost = λ t there pos. word_else (claim_word w.net.tasks t) (λ q. let p = low in
            omega arith) ∙ h.lost t there (let k = all_noted (loses t) s.views id v d at in omega arith);
        counted = λ t there.
            let k = total_ext (λ y. all (arrives y) (set s.views id (noted v d))) (λ y. all (arrives y) s.views + bit (y == e))
            (λ y. A y ∙ ap (λ b. all (arrives y) s.views + b) (swapped e y)) (w.net.needs t) in
            let l = total_add (λ y. all (arrives y) s.views) (λ y. bit (y == e)) (w.net.needs t) in
            let o = once t there in let p = h.counted t there in
            dite (ℕ_discrete t r)
            (λ q. let z = bit_same r t (sym q) in
            let b : slice_index (set s.words (count_word r) (n - 1)) (count_word t) ≡ n - 1 = ap
            (λ j. slice_index (set s.words (count_word r) (n - 1)) (count_word j)) q ∙ get_or-set_same s.words (count_word r) (n - 1) 0 in_words in
            let g : slice_index s.words (count_word t) ≡ n = ap (λ j. slice_index s.words (count_word j)) q in let y = some_left in omega arith)
            (λ ne. let z = bit_apart r t (λ q. ne (sym q)) in let b = word_else (count_word t) (λ q. ne (omega arith)) in omega arith);
        arrived_once = λ y. let q = A y in let p = h.arrived_once y in dite (ℕ_discrete e y)
            (λ s'. let z = none_came in let g : all (arrives y) s.views ≡ 0 = ap (λ k. all (arrives k) s.views) (sym s') ∙ z in
            let l = bit_le (e == y) in omega arith) (λ ne. let z = bit_apart e y ne in omega arith);
        seen = λ t there pos. let p = h.seen t there (let k = all_noted (sees t) s.views id v d at in omega arith) in
            word_else (count_word t) (λ q. let g : slice_index s.words (count_word t) ≡ n = ap (λ j. slice_index s.words j) q in
            let y = some_left in omega arith) ∙ p;
        empty_slots = λ y hy no none. set_else s.homes e y (some x) (λ q. sent
            (ap (λ k. all (wins (w.net.source k)) s.views) (sym q) ∙ sym (W (w.net.source y)) ∙ none)) ∙ h.empty_slots y hy no
            (sym (W (w.net.source y)) ∙ none);
        full_slots = λ y come none. dite (ℕ_discrete y e)
            (λ q. subst (λ k. (z : Option C) × (get_elem? (set s.homes e (some x)) k ≡ some (some z)) × Fits wires edge_of key_of a k z)
            (sym q) (x, set_here s.homes e (some x) in_homes, fits))
            (λ ne. let b = bit_apart e y (λ q. ne (sym q)) in let k = A y in
            let p = h.full_slots y (⊎_elim (λ i. inl i) (λ (i : all (arrives y) (set s.views id (noted v d)) ≡ 1). inr (omega arith)) come)
            (sym (W (w.net.reader y)) ∙ none) in (p.0, set_else s.homes e y (some x) ne ∙ p.1, p.2));
        exit_slots = λ y is one. let p = h.exit_slots y is (sym (F (w.net.source y)) ∙ one) in (
          p.0,
          set_else s.homes e y (some x) (λ q. let g = ws.apart y in let z : bit (w.is_exit y) ≡ 1 = ap bit is in
              let z' : bit (w.net.is_inner y) ≡ 1 = ap (λ k. bit (w.net.is_inner k)) q ∙ ap bit inner in omega arith) ∙ p.1,
          p.2,
        );
        keyed = λ y p is. ⊎_elim (λ (z : (y ≡ e) × (some x ≡ some (Some p))). fits_key x fits p (some-injective x (Some p) z.1))
            (λ z. h.keyed y p z.1) (at_set s.homes e y (some x) (some (Some p)) is);
      }
