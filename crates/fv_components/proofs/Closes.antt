-- The last class is done.
use Rattle.std.proofs.Common.{◌≡◌, inl, inr, ℕ, ◌+◌, ◌-◌, ◌<◌, ◌≤◌, List, [], ◌∷◌, ◌++◌, length, get_or, refl, sym, ap, subst, ◌∙◌, arith}
use Rattle.std.proofs.lemmas.List.{length_push, get_or_push, get_or_append_left, get_or-take, length-take-le, get_or_past}
use Rattle.std.proofs.lemmas.Bool.{cases_lt}
use Rattle.fv_components.specs.headline.Reach.{Links, at, Leads, Reaches}
use Rattle.fv_components.specs.declared.search.Mark.{Mark}
use Rattle.fv_components.specs.declared.search.Mark.TheVariants.{New, Open, Done}
use Rattle.fv_components.specs.declared.search.Class.{Class}
use Rattle.fv_components.specs.inner.Search.{State, no_class, mark, class, Together, Followed, Finished, Before, Waiting, IsMarked}
use Rattle.fv_components.specs.inner.Search.{IsStacked, IsReaching, IsDone, AreFollowed, IsSearch, IsClosed}
use Rattle.fv_components.proofs.Held.{no_later}

-- what a node's mark comes to where the class that begins at place first is done
data Fate (st new : State) (first s : ℕ) : Type 0 where
  Given : (i : ℕ) → mark st s ≡ Open i → first ≤ i → mark new s ≡ Done st.count → Fate st new first s
  Kept : ((i : ℕ) → mark st s ≡ Open i → i < first) → mark new s ≡ mark st s → Fate st new first s

fate : (st new : State) (first s : ℕ) → IsClosed st new first → Fate st new first s
fate st new first s c = go (mark st s) refl
  where
    go : (m : Mark) → mark st s ≡ m → Fate st new first s
    go New e = let h : (i : ℕ) → mark st s ≡ Open i → i < first = λ i o. absurd cc in Kept h (c.kept s h)
    go (Done k) e = let h : (i : ℕ) → mark st s ≡ Open i → i < first = λ i o. absurd cc in Kept h (c.kept s h)
    go (Open j) e = elim (cases_lt j first) [
      | inl l ↦ let h : (i : ℕ) → mark st s ≡ Open i → i < first = λ i o. (let z : j ≡ i = cc in omega arith) in Kept h (c.kept s h)
      | inr l ↦ Given j e (omega arith) (c.given s j e (omega arith))
    ]

module _ (next : Links) (n : ℕ) (st new : State) (front : List Class) (last : Class) (is : st.classes ≡ front ++ last ∷ []) (left : new.classes ≡ front)
    (closed : IsClosed st new last.first)
    (spent : length st.pending ≤ last.waiting) (s : IsSearch next n (λ b. ⊥) st) where
  longer : length st.classes ≡ length front + 1
  longer = ap length is ∙ length_push front last

  fewer : length new.classes ≡ length front
  fewer = ap length left

  class_is : (c : ℕ) → c < length front → class new c ≡ class st c
  class_is c l = ap (λ xs. get_or xs c no_class) left ∙ sym (ap (λ xs. get_or xs c no_class) is ∙ get_or_append_left front (last ∷ []) no_class c l)

  last_is : class st (length front) ≡ last
  last_is = ap (λ xs. get_or xs (length front) no_class) is ∙ get_or_push front last no_class (length front) refl

  first : ℕ
  first = last.first

  first_within : last.first < length st.path
  first_within = subst (λ x. x.first < length st.path) last_is (s.stacked.firsts (length front) (omega (arith, longer)))

  shorter : length new.path ≡ last.first
  shorter = ap length closed.path ∙ length-take-le last.first st.path (omega (arith, first_within))

  path_is : (i : ℕ) → i < last.first → at new.path i ≡ at st.path i
  path_is i l = ap (λ xs. at xs i) closed.path ∙ get_or-take last.first st.path i 0 l

  none_later : (c : ℕ) → c < length st.classes → (class st c).first ≤ last.first
  none_later c l = subst (λ x. (class st c).first ≤ x.first)
      (ap (class st) (let z : length st.classes - 1 ≡ length front = omega (arith, longer) in z) ∙ last_is) (no_later n st s.stacked c l)

  earlier : (c : ℕ) → c < length front → (class st c).first < last.first
  earlier c l = subst (λ x. (class st c).first < x.first) last_is (s.stacked.rising c (length front) l (omega (arith, longer))).0

  bottom_first : length front ≡ 0 → last.first ≡ 0
  bottom_first z = ap (λ x. x.first) (sym last_is ∙ ap (class st) z) ∙ s.stacked.bottom

  marked : IsMarked n new
  marked = record {
    long = closed.long ∙ s.marked.long;
    inside = λ i l. let q : i < last.first = omega (arith, shorter) in subst (λ x. x < n) (sym (path_is i q)) (s.marked.inside i (omega (arith, first_within)));
    opened = opened;
    placed = placed;
  }
    where
      opened : (i : ℕ) → i < length new.path → mark new (at new.path i) ≡ Open i
      opened i l = let q : i < last.first = omega (arith, shorter) in
          let o : mark st (at st.path i) ≡ Open i = s.marked.opened i (omega (arith, first_within)) in
          ap (mark new) (path_is i q) ∙ closed.kept (at st.path i) (λ j e. let z : i ≡ j = cc in omega arith) ∙ o

      placed : (a i : ℕ) → mark new a ≡ Open i → (i < length new.path) × (at new.path i ≡ a)
      placed a i o = elim (fate st new last.first a closed) [
        | Given j e h d ↦ absurd cc
        | Kept h e ↦
            let p = s.marked.placed a i (sym e ∙ o) in
            let q : i < last.first = h i (sym e ∙ o) in
            (omega (arith, shorter), path_is i q ∙ p.1)
      ]

  stacked : IsStacked n new
  stacked = record {
    firsts = λ c l. let q : c < length front = omega (arith, fewer) in
        subst (λ x. x.first < length new.path) (sym (class_is c q)) (omega (arith, earlier c q, shorter));
    waits = λ c l. let q : c < length front = omega (arith, fewer) in
        subst (λ x. x.waiting ≤ length new.pending) (sym (class_is c q)) (omega (arith, s.stacked.waits c (omega (arith, longer)), ap length closed.pending));
    rising = λ b c h l. let q : c < length front = omega (arith, fewer) in
        subst (λ x. ((class new b).first < x.first) × ((class new b).waiting ≤ x.waiting)) (sym (class_is c q))
        (subst (λ x. (x.first < (class st c).first) × (x.waiting ≤ (class st c).waiting)) (sym (class_is b (omega arith)))
        (s.stacked.rising b c h (omega (arith, longer))));
    some = λ l. elim (cases_lt 0 (length front)) [
      | inl h ↦ omega (arith, fewer)
      | inr h ↦ absurd (let z = bottom_first (omega arith) in omega (arith, shorter))
    ];
    bottom = elim (cases_lt 0 (length front)) [
      | inl h ↦ ap (λ x. x.first) (class_is 0 h) ∙ s.stacked.bottom
      | inr h ↦ ap (λ x. x.first) (get_or_past new.classes 0 no_class (omega (arith, fewer)))
    ];
    inside = λ k l. subst (λ xs. at xs k < n) (sym closed.pending) (s.stacked.inside k (omega (arith, ap length closed.pending)));
  }

  together : (a b : ℕ) → Together st a b → Together new a b
  together a b t c l h = let q : c < length front = omega (arith, fewer) in
      subst (λ x. x.first ≤ a) (sym (class_is c q)) (t c (omega (arith, longer)) (subst (λ x. x.first ≤ b) (class_is c q) h))

  together_back : (a b : ℕ) → b < last.first → Together new a b → Together st a b
  together_back a b le t c l h = elim (cases_lt c (length front)) [
    | inl q ↦ subst (λ x. x.first ≤ a) (class_is c q) (t c (omega (arith, fewer)) (subst (λ x. x.first ≤ b) (sym (class_is c q)) h))
    | inr q ↦ absurd (let z : c ≡ length front = omega (arith, longer) in
        let y : last.first ≤ b = subst (λ x. x.first ≤ b) (ap (class st) z ∙ last_is) h in omega arith)
  ]

  reaching : IsReaching next new
  reaching = record { down = down; up = up; leads = leads }
    where
      down : (i j : ℕ) → i ≤ j → j < length new.path → Reaches next (at new.path i) (at new.path j)
      down i j h l = let q : j < last.first = omega (arith, shorter) in
          subst (λ x. Reaches next x (at new.path j)) (sym (path_is i (omega arith)))
          (subst (λ x. Reaches next (at st.path i) x) (sym (path_is j q)) (s.reaching.down i j h (omega (arith, first_within))))

      up : (i j : ℕ) → i ≤ j → j < length new.path → Together new i j → Reaches next (at new.path j) (at new.path i)
      up i j h l t = let q : j < last.first = omega (arith, shorter) in
          subst (λ x. Reaches next (at new.path j) x) (sym (path_is i (omega arith)))
          (subst (λ x. Reaches next x (at st.path i)) (sym (path_is j q)) (s.reaching.up i j h (omega (arith, first_within)) (together_back i j q t)))

      leads : (c k : ℕ) → c < length new.classes → (class new c).waiting ≤ k → k < length new.pending
          → Reaches next (at new.path (class new c).first) (at new.pending k)
      leads c k l h m = let q : c < length front = omega (arith, fewer) in
          subst (λ x. Reaches next (at new.path x.first) (at new.pending k)) (sym (class_is c q))
          (subst (λ x. Reaches next x (at new.pending k)) (sym (path_is (class st c).first (earlier c q)))
          (subst (λ xs. Reaches next (at st.path (class st c).first) (at xs k)) (sym closed.pending)
          (s.reaching.leads c k (omega (arith, longer)) (subst (λ x. x.waiting ≤ k) (class_is c q) h) (omega (arith, ap length closed.pending)))))

  kept_done : (b m : ℕ) → mark st b ≡ Done m → mark new b ≡ Done m
  kept_done b m d = closed.kept b (λ i o. absurd cc) ∙ d

  -- a node of the class that is done leads to what is done
  leads_done : (j b : ℕ) → last.first ≤ j → Followed st j b → (m : ℕ) × (mark new b ≡ Done m) × (m ≤ st.count)
  leads_done j b l (Finished m d) = (m, kept_done b m d, omega (arith, s.done.counted b m d))
  leads_done j b l (Before p o t) =
      let f : last.first ≤ p = subst (λ x. x.first ≤ p) last_is (t (length front) (omega (arith, longer)) (subst (λ x. x.first ≤ j) (sym last_is) l)) in
      (st.count, closed.given b p o f, omega arith)
  leads_done j b l (Waiting k h e w) =
      absurd (let f : last.waiting ≤ k = subst (λ x. x.waiting ≤ k) last_is
      (w (length front) (omega (arith, longer)) (subst (λ x. x.first ≤ j) (sym last_is) l)) in omega arith)

  at_place : (a i : ℕ) → mark st a ≡ Open i → (i < length st.path) × (at st.path i ≡ a)
  at_place a i o = s.marked.placed a i o

  done : IsDone next n new
  done = record { closed = closing; counted = counted; alike = alike }
    where
      closing : (a b k : ℕ) → mark new a ≡ Done k → Leads next a b → (m : ℕ) × (mark new b ≡ Done m) × (m ≤ k)
      closing a b k d l = elim (fate st new last.first a closed) [
        | Given i o h e ↦
            let z : st.count ≡ k = cc in
            let p = at_place a i o in
            subst (λ x. (m : ℕ) × (mark new b ≡ Done m) × (m ≤ x)) z
            (leads_done i b h (elim (s.followed i b p.0 (subst (λ x. Leads next x b) (sym p.1) l)) [ inl f ↦ f | inr f ↦ absurd f ]))
        | Kept h e ↦ let p = s.done.closed a b k (sym e ∙ d) l in (p.0, kept_done b p.0 p.1, p.2)
      ]

      counted : (a k : ℕ) → mark new a ≡ Done k → k < new.count
      counted a k d = elim (fate st new last.first a closed) [
        | Given i o h e ↦ (let z : st.count ≡ k = cc in omega (arith, closed.count))
        | Kept h e ↦ omega (arith, closed.count, s.done.counted a k (sym e ∙ d))
      ]

      together_last : (i j : ℕ) → last.first ≤ i → Together st i j
      together_last i j l c m h = omega (arith, none_later c m)

      reach : (a b i j : ℕ) → mark st a ≡ Open i → mark st b ≡ Open j → last.first ≤ i → last.first ≤ j → Reaches next a b
      reach a b i j o q f g =
          let p = at_place a i o in
          let r = at_place b j q in
          subst (λ x. Reaches next x b) p.1 (subst (λ x. Reaches next (at st.path i) x) r.1 (elim (cases_lt i j) [
            | inl l ↦ s.reaching.down i j (omega arith) r.0
            | inr l ↦ s.reaching.up j i (omega arith) p.0 (together_last j i g)
          ]))

      alike : (a b k : ℕ) → mark new a ≡ Done k → mark new b ≡ Done k → Reaches next a b
      alike a b k d e = elim (fate st new last.first a closed) [
        | Given i o h u ↦ elim (fate st new last.first b closed) [
          | Given j q g v ↦ reach a b i j o q h g
          | Kept g v ↦ absurd (let z : st.count ≡ k = cc in omega (arith, s.done.counted b k (sym v ∙ e)))
        ]
        | Kept h u ↦ elim (fate st new last.first b closed) [
          | Given j q g v ↦ absurd (let z : st.count ≡ k = cc in omega (arith, s.done.counted a k (sym u ∙ d)))
          | Kept g v ↦ s.done.alike a b k (sym u ∙ d) (sym v ∙ e)
        ]
      ]

  followed : AreFollowed next (λ b. ⊥) new
  followed i b l h = let q : i < last.first = omega (arith, shorter) in
      inl (elim (s.followed i b (omega (arith, first_within)) (subst (λ x. Leads next x b) (path_is i q) h)) [ inl f ↦ kept i b f | inr f ↦ absurd f ])
    where
      kept : (i b : ℕ) → Followed st i b → Followed new i b
      kept i b (Finished m d) = Finished m (kept_done b m d)
      kept i b (Before p o t) = elim (cases_lt p last.first) [
        | inl q ↦ Before p (closed.kept b (λ j e. let z : p ≡ j = cc in omega arith) ∙ o) (together p i t)
        | inr q ↦ Finished st.count (closed.given b p o (omega arith))
      ]
      kept i b (Waiting k m e w) = Waiting k (omega (arith, ap length closed.pending)) (ap (λ xs. at xs k) closed.pending ∙ e)
          (λ c o g. let q : c < length front = omega (arith, fewer) in
          subst (λ x. x.waiting ≤ k) (sym (class_is c q)) (w c (omega (arith, longer)) (subst (λ x. x.first ≤ i) (class_is c q) g)))

  pub closes : IsSearch next n (λ b. ⊥) new
  closes = record { marked = marked; stacked = stacked; reaching = reaching; done = done; followed = followed }
