-- A node that waited is looked at, and where it stands on the path, classes become one.
use Rattle.std.proofs.Common.{◌≡◌, ◌⊎◌, inl, inr, ℕ, ◌+◌, ◌-◌, ◌<◌, ◌≤◌, List, [], ◌∷◌, ◌++◌, length, refl, sym, ap, subst, ◌∙◌, arith}
use Rattle.std.proofs.lemmas.List.{length_push, get_or_push, get_or_append_left, get_or-take, length-take-le}
use Rattle.std.proofs.lemmas.Bool.{cases_eq, cases_lt}
use Rattle.fv_components.specs.headline.Reach.{Links, at, Reaches}
use Rattle.fv_components.specs.declared.search.Mark.TheVariants.{Open, Done}
use Rattle.fv_components.specs.inner.Search.{State, no_class, mark, class, Together, Followed, Finished, Before, Waiting, IsSearch, IsHeld, IsCountUpTo}
use Rattle.fv_components.specs.inner.Search.{collapsed}
use Rattle.fv_components.proofs.lemmas.Walks.{reaches_trans}
use Rattle.fv_components.proofs.Held.{to_held}

-- the node that waited last is taken
abbrev pub popped : State → List ℕ → State
popped st rest = record st { pending = rest }

module _ (next : Links) (n : ℕ) (st : State) (rest : List ℕ) (w : ℕ) (is : st.pending ≡ rest ++ w ∷ [])
    (waits : (c : ℕ) → c < length st.classes → (class st c).waiting ≤ length rest) (s : IsSearch next n (λ b. ⊥) st) where
  longer : length st.pending ≡ length rest + 1
  longer = ap length is ∙ length_push rest w

  at_rest : (k : ℕ) → k < length rest → at st.pending k ≡ at rest k
  at_rest k l = ap (λ xs. at xs k) is ∙ get_or_append_left rest (w ∷ []) 0 k l

  at_end : at st.pending (length rest) ≡ w
  at_end = ap (λ xs. at xs (length rest)) is ∙ get_or_push rest w 0 (length rest) refl

  pub held_popped : IsHeld next n (popped st rest) w
  held_popped = record {
    inside = subst (λ k. k < n) at_end (s.stacked.inside (length rest) (omega (arith, longer)));
    reached = λ c l. subst (λ x. Reaches next (at st.path (class st c).first) x) at_end
        (s.reaching.leads c (length rest) l (waits c l) (omega (arith, longer)));
  }

  off : ℕ → Type 0
  off b = b ≡ w

  pub search_popped : IsSearch next n (λ b. b ≡ w) (popped st rest)
  search_popped = record {
    marked = record { long = s.marked.long; inside = s.marked.inside; opened = s.marked.opened; placed = s.marked.placed };
    stacked = record {
      firsts = s.stacked.firsts;
      waits = waits;
      rising = s.stacked.rising;
      some = s.stacked.some;
      bottom = s.stacked.bottom;
      inside = λ k l. subst (λ x. x < n) (at_rest k l) (s.stacked.inside k (omega (arith, longer)));
    };
    reaching = record {
      down = s.reaching.down;
      up = s.reaching.up;
      leads = λ c k l h m. subst (λ x. Reaches next (at st.path (class st c).first) x) (at_rest k m) (s.reaching.leads c k l h (omega (arith, longer)));
    };
    done = record { closed = s.done.closed; counted = s.done.counted; alike = s.done.alike };
    followed = λ i b l h. followed i b (s.followed i b l h);
  }
    where
      shift : (i b : ℕ) → Followed st i b → Followed (popped st rest) i b ⊎ (b ≡ w)
      shift i b (Finished k d) = inl (Finished k d)
      shift i b (Before p o t) = inl (Before p o t)
      shift i b (Waiting k l e h) = elim (cases_lt k (length rest)) [
        | inl m ↦ inl (Waiting k m (sym (at_rest k m) ∙ e) h)
        | inr m ↦ inr (sym e ∙ subst (λ x. at st.pending x ≡ w) (let z : length rest ≡ k = omega (arith, longer) in z) at_end)
      ]

      followed : (i b : ℕ) → Followed st i b ⊎ ⊥ → Followed (popped st rest) i b ⊎ (b ≡ w)
      followed i b (inl f) = shift i b f
      followed i b (inr f) = absurd f

-- a node that is done needs no more
pub skips : (next : Links) (n : ℕ) (st : State) (w k : ℕ) → mark st w ≡ Done k → IsSearch next n (λ b. b ≡ w) st → IsSearch next n (λ b. ⊥) st
skips next n st w k d s = record {
  marked = s.marked;
  stacked = s.stacked;
  reaching = s.reaching;
  done = s.done;
  followed = λ i b l h. inl (elim (s.followed i b l h) [ inl f ↦ f | inr e ↦ Finished k (ap (mark st) e ∙ d) ]);
}

module _ (next : Links) (n : ℕ) (st : State) (w i m : ℕ) (stands : mark st w ≡ Open i) (held : IsHeld next n st w)
    (count : IsCountUpTo st.classes i m) (s : IsSearch next n (λ b. b ≡ w) st) where
  abbrev new : State
  new = collapsed st m

  long : length new.classes ≡ m
  long = length-take-le m st.classes count.few

  up_to : (c : ℕ) → c < m → (class st c).first ≤ i
  up_to c l = elim (cases_eq c (m - 1)) [
    | inl e ↦ subst (λ x. (class st x).first ≤ i) (sym e) (count.last no_class (omega arith))
    | inr e ↦ omega (arith, (s.stacked.rising c (m - 1) (omega arith) (omega (arith, count.few))).0, count.last no_class (omega arith))
  ]

  class_is : (c : ℕ) → c < m → class new c ≡ class st c
  class_is c l = get_or-take m st.classes c no_class l

  place : (i < length st.path) × (at st.path i ≡ w)
  place = s.marked.placed w i stands

  in_front : (c : ℕ) → c < length st.classes → (class st c).first ≤ i → c < m
  in_front c l h = elim (cases_lt c m) [ inl p ↦ p | inr p ↦ absurd (let z = count.behind c no_class (omega arith) l in omega arith) ]

  some : 0 < length st.classes
  some = s.stacked.some (omega (arith, place.0))

  few_some : 0 < m
  few_some = in_front 0 some (omega (arith, s.stacked.bottom))

  together : (a b : ℕ) → Together st a b → Together new a b
  together a b t c l h = let q : c < m = omega (arith, long) in
      subst (λ x. x.first ≤ a) (sym (class_is c q)) (t c (omega arith) (subst (λ x. x.first ≤ b) (class_is c q) h))

  together_back : (a b : ℕ) → b ≤ i → Together new a b → Together st a b
  together_back a b le t c l h = let q : c < m = in_front c l (omega arith) in
      subst (λ x. x.first ≤ a) (class_is c q) (t c (omega (arith, long)) (subst (λ x. x.first ≤ b) (sym (class_is c q)) h))

  up : (a j : ℕ) → a ≤ j → j < length st.path → Together new a j → Reaches next (at st.path j) (at st.path a)
  up a j h l t = elim (cases_lt i j) [
    | inl q ↦ reaches_trans (subst (λ x. Reaches next (at st.path j) x) (sym place.1) (to_held next n st w held s.stacked s.reaching j l))
        (elim (cases_lt a i) [
          | inl o ↦ s.reaching.up a i (omega arith) place.0 (together_back a i (omega arith) (λ c p e. t c p (omega arith)))
          | inr o ↦ s.reaching.down i a (omega arith) (omega arith)
        ])
    | inr q ↦ s.reaching.up a j h l (together_back a j (omega arith) t)
  ]

  kept : (j b : ℕ) → Followed st j b → Followed new j b
  kept j b (Finished k d) = Finished k d
  kept j b (Before p o t) = Before p o (together p j t)
  kept j b (Waiting k l e h) = Waiting k l e (λ c o g. let q : c < m = omega (arith, long) in
      subst (λ x. x.waiting ≤ k) (sym (class_is c q)) (h c (omega arith) (subst (λ x. x.first ≤ j) (class_is c q) g)))

  pub collapses : IsSearch next n (λ b. ⊥) new
  collapses = record {
    marked = record { long = s.marked.long; inside = s.marked.inside; opened = s.marked.opened; placed = s.marked.placed };
    stacked = record {
      firsts = λ c l. let q : c < m = omega (arith, long) in subst (λ x. x.first < length st.path) (sym (class_is c q)) (s.stacked.firsts c (omega arith));
      waits = λ c l. let q : c < m = omega (arith, long) in subst (λ x. x.waiting ≤ length st.pending) (sym (class_is c q)) (s.stacked.waits c (omega arith));
      rising = λ b c h l. let q : c < m = omega (arith, long) in
          subst (λ x. ((class new b).first < x.first) × ((class new b).waiting ≤ x.waiting)) (sym (class_is c q))
          (subst (λ x. (x.first < (class st c).first) × (x.waiting ≤ (class st c).waiting)) (sym (class_is b (omega arith)))
          (s.stacked.rising b c h (omega arith)));
      some = λ _. omega (arith, long, few_some);
      bottom = ap (λ x. x.first) (class_is 0 few_some) ∙ s.stacked.bottom;
      inside = s.stacked.inside;
    };
    reaching = record {
      down = s.reaching.down;
      up = up;
      leads = λ c k l h e. let q : c < m = omega (arith, long) in
          subst (λ x. Reaches next (at st.path x.first) (at st.pending k)) (sym (class_is c q))
          (s.reaching.leads c k (omega arith) (subst (λ x. x.waiting ≤ k) (class_is c q) h) e);
    };
    done = record { closed = s.done.closed; counted = s.done.counted; alike = s.done.alike };
    followed = λ j b l h. inl (elim (s.followed j b l h) [
      | inl f ↦ kept j b f
      | inr e ↦ Before i (ap (mark st) e ∙ stands) (λ c o g. let q : c < m = omega (arith, long) in subst (λ x. x.first ≤ i) (sym (class_is c q)) (up_to c q))
    ]);
  }
