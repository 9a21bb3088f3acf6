-- A load of a count keeps the whole rule.
use Rattle.std.proofs.Common.{◌≡◌, ℕ, ◌+◌, ◌&&◌, ◌⊎◌, inl, inr, ⊎_elim, List, []}
use Rattle.std.proofs.Common.{◌∷◌, set, slice_index, refl, sym, ap, ◌∙◌, subst, arith, ◌==◌, Option, Some}
use Rattle.std.proofs.lemmas.List.{set-get_or}
use mathlib.Core.Option.{some, none}
use mathlib.Core.Logic.{dite}
use native.Mathlib.Decide.{ℕ_discrete}
use lib.ListN.{get_elem?}
use Rattle.atomic_table.specs.Table.{State, Me, step, keeps, Allows}
use Rattle.atomic_table.proofs.Lists.{at_set}
use Rattle.fv_graph.specs.Tasks.{bit}
use Rattle.fv_graph.specs.Net.{Net}
use Rattle.fv_graph.specs.Graph.{Graph}
use Rattle.fv_graph.proofs.lemmas.Counts.{bit_one, bit_true, both_true, total_append}
use Rattle.fv_graph.specs.Wires.{Wires}
use Rattle.fv_ready.specs.declared.view.Deed.{Deed}
use Rattle.fv_ready.specs.declared.view.Deed.TheVariants.{Saw}
use Rattle.fv_ready.specs.declared.view.About.{About}
use Rattle.fv_ready.specs.declared.view.View.{View}
use Rattle.fv_ready.specs.Rule.{count_word, wins, loses, saw, sees, arrives, stamps, starts, finishes, all, noted, IsSpent, IsOwn, IsKept, Looks}
use Rattle.fv_ready.specs.Whole.{IsWhole}
use Rattle.fv_ready.proofs.lemmas.Claim.{all_noted, total_ext}
use Rattle.fv_ready.proofs.Regrouped.{LookedBetween}
use Rattle.fv_ready.proofs.WholeSteps.{saw_quiet, whole_quiet, reached_same}

module _ {C Key : Type 0} (wires : Graph → Wires) (edge_of : C → ℕ) (key_of : C → Key) (a : About C) where
  module _ (s : State (Option C) (View C)) (h : IsWhole wires edge_of key_of a s) (id : ℕ) (v : View C)
      (at : get_elem? s.views id ≡ some v) (ab : v.board ≡ Some a) (t : ℕ) where
    abbrev n : Net
    n = (wires a.tasks.value).net

    abbrev d : Deed
    d = Saw t (slice_index s.words (count_word t))

    A : (f : Deed → ℕ) → all f (set s.views id (noted v d)) ≡ all f s.views + f d
    A f = all_noted f s.views id v d at

    each : (P : View C → Type 0) → P (noted v d) → ((j : ℕ) (y : View C) → get_elem? s.views j ≡ some y → P y) → (j : ℕ) (y : View C) →
        get_elem? (set s.views id (noted v d)) j ≡ some y → P y
    each P here others j y e = ⊎_elim (λ (z : (j ≡ id) × (noted v d ≡ y)). subst P z.1 here) (λ z. others j y z.1) (at_set s.views id j (noted v d) y e)

    kept_seen : IsKept wires edge_of key_of a record { words = s.words; homes = s.homes; views = set s.views id (noted v d) }
    kept_seen = let g = h.kept in record {
      words_long = g.words_long;
      homes_long = g.homes_long;
      same = each (λ y. (y.board ≡ Some a) ⊎ IsSpent y) (inl ab) g.same;
      own = each (λ y. IsOwn n y) (let o = g.own id v at in record {
        won_seen = λ x pos. let p = total_append (wins x) v.deeds (d ∷ []) in let q = total_append (sees x) v.deeds (d ∷ []) in
            let r = o.won_seen x (omega arith) in omega arith;
        arrived_won = λ e. let p = total_append (wins (n.source e)) v.deeds (d ∷ []) in
            let q = total_append (arrives e) v.deeds (d ∷ []) in let r = o.arrived_won e in omega arith;
        started_won = λ x. let p = total_append (wins x) v.deeds (d ∷ []) in let q = total_append (starts x) v.deeds (d ∷ []) in
            let r = o.started_won x in omega arith;
        finished_started = λ x. let p = total_append (finishes x) v.deeds (d ∷ []) in let q = total_append (starts x) v.deeds (d ∷ []) in
            let r = o.finished_started x in omega arith;
      }) g.own;
      stamped = λ k. let r = A (stamps k) in let p = g.stamped k in omega arith;
      won_once = λ x. let r = A (wins x) in let p = g.won_once x in omega arith;
      claimed = λ x hx. let r = A (wins x) in g.claimed x hx ∙ omega arith;
      lost = λ x hx pos. g.lost x hx (let r = A (loses x) in omega arith);
      counted = λ x hx. let p = g.counted x hx in
          let r = total_ext (λ e. all (arrives e) (set s.views id (noted v d))) (λ e. all (arrives e) s.views)
          (λ e. let q = A (arrives e) in omega arith) (n.needs x) in omega arith;
      arrived_once = λ e. let r = A (arrives e) in let p = g.arrived_once e in omega arith;
      seen = λ x hx pos. let r = A (sees x) in dite (ℕ_discrete (all (sees x) s.views) 0)
          (λ z. let b = both_true (slice_index s.words (count_word t) == 0) (t == x)
          (bit_true ((slice_index s.words (count_word t) == 0) && (t == x)) (omega arith)) in
          let e : t ≡ x = bit_one t x (let q = ap bit b.1 in omega arith) in
          sym (ap (λ i. slice_index s.words (count_word i)) e) ∙ bit_one (slice_index s.words (count_word t)) 0 (let q = ap bit b.0 in omega arith))
          (λ nz. g.seen x hx (omega arith));
      empty_slots = λ e he no none'. g.empty_slots e he no (let r = A (wins (n.source e)) in omega arith);
      full_slots = λ e come none'. g.full_slots e (⊎_elim (λ i. inl i) (λ i. inr (let r = A (arrives e) in omega arith)) come)
          (let r = A (wins (n.reader e)) in omega arith);
      exit_slots = λ e is fin. g.exit_slots e is (let r = A (finishes (n.source e)) in omega arith);
      keyed = g.keyed;
    }

    looked : LookedBetween wires edge_of key_of a s record { words = s.words; homes = s.homes; views = set s.views id (noted v d) }
    looked x c hx pos = let w = slice_index s.words (count_word t) in let r = A (saw x c) in dite (ℕ_discrete (all (saw x c) s.views) 0)
        (λ z. let b = both_true (w == c) (t == x) (bit_true ((w == c) && (t == x)) (omega arith)) in
        let e : t ≡ x = bit_one t x (let q = ap bit b.1 in omega arith) in let f : w ≡ c = bit_one w c (let q = ap bit b.0 in omega arith) in
        let g : w ≡ slice_index s.words (count_word x) = ap (λ i. slice_index s.words (count_word i)) e in
        let m = h.kept.counted x hx in (omega arith, omega arith))
        (λ nz. h.seen_between x c hx (omega arith))

    pub whole_seen : IsWhole wires edge_of key_of a record { words = s.words; homes = s.homes; views = set s.views id (noted v d) }
    whole_seen = whole_quiet wires edge_of key_of a s h id v at ab d (saw_quiet n t (slice_index s.words (count_word t))) s.words s.homes
        kept_seen refl (λ x l. refl) looked
        (reached_same wires edge_of key_of a s h id v at ab d (λ x. refl) (λ x. refl) (λ x. refl) s.words (λ x l. refl))

  pub looks : (m : Me (Option C) (View C)) (t id slots word : ℕ) → m.0.board ≡ Some a → word ≡ count_word t
      → Allows (λ s. IsWhole wires edge_of key_of a s) slots id m word (λ k. k) (Looks (step slots word 0 0 none) m)
  looks m t id slots word ab ew s h long at wide = (
    noted m.0 (Saw t (slice_index s.words word)),
    keeps,
    tt,
    subst (λ (p : List ℕ × ℕ). IsWhole wires edge_of key_of a record {
      words = p.0;
      homes = s.homes;
      views = set s.views id
          (noted m.0 (Saw t (slice_index s.words p.1)));
    }) (λ i. (sym (set-get_or s.words word 0) i, sym ew i)) (whole_seen s h id m.0 at ab t),
    (ap (λ k. noted m.0 (Saw k (slice_index s.words word))) (omega arith), refl),
  )
