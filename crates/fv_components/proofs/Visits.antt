-- A node is put at the end of the path.
use Rattle.std.proofs.Common.{◌≡◌, ◌≢◌, inl, inr, ℕ, ◌+◌, ◌-◌, ◌<◌, ◌≤◌, [], ◌∷◌, length, refl, sym, ap, subst, ◌∙◌, arith}
use Rattle.std.proofs.lemmas.List.{length-set, length_push, length-append, get_or-set_same, get_or_push, get_or_append_left, get_or-append-add}
use Rattle.std.proofs.lemmas.Bool.{cases_lt}
use Rattle.fv_components.specs.headline.Reach.{Links, at, Leads, Reaches}
use Rattle.fv_components.specs.Reach.{AreLinks}
use Rattle.fv_components.specs.declared.search.Mark.TheVariants.{New, Open, Done}
use Rattle.fv_components.specs.declared.search.Class.{Class}
use Rattle.fv_components.specs.inner.Search.{State, no_class, mark, class, Together, Followed, Finished, Before, Waiting, IsMarked}
use Rattle.fv_components.specs.inner.Search.{IsStacked, IsReaching, IsDone, AreFollowed, IsSearch, IsHeld, visited}
use Rattle.fv_components.proofs.lemmas.Walks.{reaches_trans, reaches_self, reaches_step}
use Rattle.fv_components.proofs.Held.{to_held}
use Rattle.fv_components.proofs.Places.{AtSet, Same, Other, at_set, AtPush, Older, Last, at_push, Former, Latter, at_append}

module _ (next : Links) (n : ℕ) (st : State) (w : ℕ) (held : IsHeld next n st w) (fresh : mark st w ≡ New) where
  abbrev new : State
  new = visited next st w

  long_path : length new.path ≡ length st.path + 1
  long_path = length_push st.path w

  long_classes : length new.classes ≡ length st.classes + 1
  long_classes = length_push st.classes _

  -- marks
  marked : IsMarked n st → IsMarked n new
  marked m = record { long = length-set st.marks w _ ∙ m.long; inside = inside; opened = opened; placed = placed }
    where
      in_marks : w < length st.marks
      in_marks = subst (λ k. w < k) (sym m.long) held.inside

      inside : (i : ℕ) → i < length new.path → at new.path i < n
      inside i l = elim (at_push st.path w 0 i l) [
        | Older h e ↦ subst (λ k. k < n) (sym e) (m.inside i h)
        | Last h e ↦ subst (λ k. k < n) (sym e) held.inside
      ]

      at_mark : (s : ℕ) → AtSet st.marks w (Open (length st.path)) New s
      at_mark s = at_set st.marks w (Open (length st.path)) New s in_marks

      opened_old : (s i : ℕ) → mark st s ≡ Open i → mark new s ≡ Open i
      opened_old s i o = elim (at_mark s) [
        | Same e f ↦ absurd (let g : mark st s ≡ New = ap (mark st) e ∙ fresh in cc)
        | Other e f ↦ f ∙ o
      ]

      opened : (i : ℕ) → i < length new.path → mark new (at new.path i) ≡ Open i
      opened i l = elim (at_push st.path w 0 i l) [
        | Older h e ↦ ap (mark new) e ∙ opened_old (at st.path i) i (m.opened i h)
        | Last h e ↦ ap (mark new) e ∙ get_or-set_same st.marks w (Open (length st.path)) New in_marks ∙ ap Open (sym h)
      ]

      placed : (s i : ℕ) → mark new s ≡ Open i → (i < length new.path) × (at new.path i ≡ s)
      placed s i o = elim (at_mark s) [
        | Same e f ↦ let g : length st.path ≡ i = cc in (omega (arith, long_path), get_or_push st.path w 0 i g ∙ sym e)
        | Other e f ↦ let p = m.placed s i (sym f ∙ o) in (omega (arith, long_path, p.0), get_or_append_left st.path (w ∷ []) 0 i p.0 ∙ p.1)
      ]

  abbrev added : Class
  added = record { first = length st.path; waiting = length st.pending }

  in_all : (c : ℕ) → c < length st.classes → c < length new.classes
  in_all c l = omega (arith, long_classes)

  class_old : (c : ℕ) → c < length st.classes → class new c ≡ class st c
  class_old c l = get_or_append_left st.classes (added ∷ []) no_class c l

  class_at : (c : ℕ) → c < length new.classes → AtPush st.classes added no_class c
  class_at c l = at_push st.classes added no_class c l

  path_old : (i : ℕ) → i < length st.path → at new.path i ≡ at st.path i
  path_old i l = get_or_append_left st.path (w ∷ []) 0 i l

  path_last : (i : ℕ) → i ≡ length st.path → at new.path i ≡ w
  path_last i e = get_or_push st.path w 0 i (sym e)

  together_old : (a b : ℕ) → Together new a b → Together st a b
  together_old a b t c l h = subst (λ x. x.first ≤ a) (class_old c l) (t c (in_all c l) (subst (λ x. x.first ≤ b) (sym (class_old c l)) h))

  together_new : (a b : ℕ) → b < length st.path → Together st a b → Together new a b
  together_new a b l t c m h = elim (class_at c m) [
    | Older p e ↦ subst (λ x. x.first ≤ a) (sym e) (t c p (subst (λ x. x.first ≤ b) e h))
    | Last p e ↦ absurd (let g : length st.path ≤ b = subst (λ x. x.first ≤ b) e h in omega arith)
  ]

  -- classes
  stacked : AreLinks next n → IsStacked n st → IsStacked n new
  stacked links k = record { firsts = firsts; waits = waits; rising = rising; some = λ _. omega (arith, long_classes); bottom = bottom; inside = inside }
    where
      firsts : (c : ℕ) → c < length new.classes → (class new c).first < length new.path
      firsts c l = elim (class_at c l) [
        | Older p e ↦ subst (λ x. x.first < length new.path) (sym e) (omega (arith, long_path, k.firsts c p))
        | Last p e ↦ subst (λ x. x.first < length new.path) (sym e) (omega (arith, long_path))
      ]

      waits : (c : ℕ) → c < length new.classes → (class new c).waiting ≤ length new.pending
      waits c l = elim (class_at c l) [
        | Older p e ↦ subst (λ x. x.waiting ≤ length new.pending) (sym e) (omega (arith, length-append st.pending (next w), k.waits c p))
        | Last p e ↦ subst (λ x. x.waiting ≤ length new.pending) (sym e) (omega (arith, length-append st.pending (next w)))
      ]

      rising : (b c : ℕ) → b < c → c < length new.classes → ((class new b).first < (class new c).first) × ((class new b).waiting ≤ (class new c).waiting)
      rising b c h l = elim (class_at c l) [
        | Older p e ↦ let o : b < length st.classes = omega arith in
            subst (λ x. ((class new b).first < x.first) × ((class new b).waiting ≤ x.waiting)) (sym e)
            (subst (λ x. (x.first < (class st c).first) × (x.waiting ≤ (class st c).waiting)) (sym (class_old b o)) (k.rising b c h p))
        | Last p e ↦ let o : b < length st.classes = omega arith in
            subst (λ x. ((class new b).first < x.first) × ((class new b).waiting ≤ x.waiting)) (sym e)
            (subst (λ x. (x.first < length st.path) × (x.waiting ≤ length st.pending)) (sym (class_old b o)) (k.firsts b o, k.waits b o))
      ]

      bottom : (class new 0).first ≡ 0
      bottom = elim (class_at 0 (omega (arith, long_classes))) [
        | Older p e ↦ ap (λ x. x.first) e ∙ k.bottom
        | Last p e ↦ ap (λ x. x.first) e
            ∙ elim (cases_lt 0 (length st.path)) [ inl h ↦ absurd (let z = k.some h in omega arith) | inr h ↦ let z : length st.path ≡ 0 = omega arith in z ]
      ]

      inside : (i : ℕ) → i < length new.pending → at new.pending i < n
      inside i l = elim (at_append st.pending (next w) 0 i l) [
        | Former h e ↦ subst (λ x. x < n) (sym e) (k.inside i h)
        | Latter h g e ↦ subst (λ x. x < n) (sym e) (links w _ held.inside (record { place = i - length st.pending; within = g; is = refl }))
      ]

  reaching : IsStacked n st → IsReaching next st → IsReaching next new
  reaching k r = record { down = down; up = up; leads = leads }
    where
      down : (i j : ℕ) → i ≤ j → j < length new.path → Reaches next (at new.path i) (at new.path j)
      down i j h l = elim (at_push st.path w 0 j l) [
        | Older p e ↦ subst (λ x. Reaches next x (at new.path j)) (sym (path_old i (omega arith)))
            (subst (λ x. Reaches next (at st.path i) x) (sym e) (r.down i j h p))
        | Last p e ↦ subst (λ x. Reaches next (at new.path i) x) (sym e) (elim (cases_lt i (length st.path)) [
          | inl o ↦ subst (λ x. Reaches next x w) (sym (path_old i o)) (to_held next n st w held k r i o)
          | inr o ↦ subst (λ x. Reaches next x w) (sym (path_last i (omega arith))) (reaches_self next w)
        ])
      ]

      up : (i j : ℕ) → i ≤ j → j < length new.path → Together new i j → Reaches next (at new.path j) (at new.path i)
      up i j h l t = elim (at_push st.path w 0 j l) [
        | Older p e ↦ subst (λ x. Reaches next (at new.path j) x) (sym (path_old i (omega arith)))
            (subst (λ x. Reaches next x (at st.path i)) (sym e) (r.up i j h p (together_old i j t)))
        | Last p e ↦
            let f : (class new (length st.classes)).first ≡ length st.path =
            ap (λ x. x.first) (get_or_push st.classes added no_class (length st.classes) refl) in
            let g : (class new (length st.classes)).first ≤ i = t (length st.classes) (omega (arith, long_classes)) (omega arith) in
            let q : at new.path i ≡ w = path_last i (omega arith) in
            subst (λ x. Reaches next (at new.path j) x) (sym q) (subst (λ x. Reaches next x w) (sym e) (reaches_self next w))
      ]

      leads : (c i : ℕ) → c < length new.classes → (class new c).waiting ≤ i → i < length new.pending
          → Reaches next (at new.path (class new c).first) (at new.pending i)
      leads c i l h m = elim (class_at c l) [
        | Older p e ↦
            subst (λ x. Reaches next (at new.path x.first) (at new.pending i)) (sym e)
            (subst (λ x. Reaches next x (at new.pending i)) (sym (path_old (class st c).first (k.firsts c p)))
            (elim (at_append st.pending (next w) 0 i m) [
              | Former q f ↦ subst (λ x. Reaches next (at st.path (class st c).first) x) (sym f) (r.leads c i p (subst (λ x. x.waiting ≤ i) e h) q)
              | Latter q g f ↦ subst (λ x. Reaches next (at st.path (class st c).first) x) (sym f)
                  (reaches_trans (held.reached c p) (reaches_step (record { place = i - length st.pending; within = g; is = refl })))
            ]))
        | Last p e ↦
            subst (λ x. Reaches next (at new.path x.first) (at new.pending i)) (sym e)
            (subst (λ x. Reaches next x (at new.pending i)) (sym (path_last (length st.path) refl))
            (elim (at_append st.pending (next w) 0 i m) [
              | Former q f ↦ absurd (let g : length st.pending ≤ i = subst (λ x. x.waiting ≤ i) e h in omega arith)
              | Latter q g f ↦ subst (λ x. Reaches next w x) (sym f) (reaches_step (record { place = i - length st.pending; within = g; is = refl }))
            ]))
      ]

  -- what is marked otherwise than new keeps its mark
  mark_old : IsMarked n st → (s : ℕ) → (mark st s ≢ New) → mark new s ≡ mark st s
  mark_old m s o = elim (at_set st.marks w (Open (length st.path)) New s (subst (λ k. w < k) (sym m.long) held.inside)) [
    | Same e f ↦ absurd (o (ap (mark st) e ∙ fresh))
    | Other e f ↦ f
  ]

  done_old : IsMarked n st → (s k : ℕ) → mark new s ≡ Done k → mark st s ≡ Done k
  done_old m s k d = elim (at_set st.marks w (Open (length st.path)) New s (subst (λ k. w < k) (sym m.long) held.inside)) [
    | Same e f ↦ absurd cc
    | Other e f ↦ sym f ∙ d
  ]

  done_new : IsMarked n st → (s k : ℕ) → mark st s ≡ Done k → mark new s ≡ Done k
  done_new m s k d = mark_old m s (λ o. cc) ∙ d

  done : IsMarked n st → IsDone next n st → IsDone next n new
  done m d = record {
    closed = λ s b k e l. let p = d.closed s b k (done_old m s k e) l in (p.0, done_new m b p.0 p.1, p.2);
    counted = λ s k e. d.counted s k (done_old m s k e);
    alike = λ s r k e f. d.alike s r k (done_old m s k e) (done_old m r k f);
  }

  followed : IsMarked n st → IsStacked n st → AreFollowed next (λ b. b ≡ w) st → AreFollowed next (λ b. ⊥) new
  followed m k f i b l leads = elim (at_push st.path w 0 i l) [
    | Older p e ↦ inl (elim (f i b p (subst (λ x. Leads next x b) e leads)) [
      | inl q ↦ older p q
      | inr q ↦ Before (length st.path)
          (ap (mark new) q ∙ get_or-set_same st.marks w (Open (length st.path)) New (subst (λ k. w < k) (sym m.long) held.inside)) (λ c o h. omega arith)
    ])
    | Last p e ↦ inl (last p (subst (λ x. Leads next x b) e leads))
  ]
    where
      older : i < length st.path → Followed st i b → Followed new i b
      older p (Finished a d) = Finished a (done_new m b a d)
      older p (Before a o t) = Before a (mark_old m b (λ z. cc) ∙ o) (together_new a i p t)
      older p (Waiting a q e h) = Waiting a (omega (arith, length-append st.pending (next w))) (get_or_append_left st.pending (next w) 0 a q ∙ e)
          (λ c o g. elim (class_at c o) [
            | Older u v ↦ subst (λ x. x.waiting ≤ a) (sym v) (h c u (subst (λ x. x.first ≤ i) v g))
            | Last u v ↦ absurd (let z : length st.path ≤ i = subst (λ x. x.first ≤ i) v g in omega arith)
          ])

      last : i ≡ length st.path → Leads next w b → Followed new i b
      last p l = Waiting (length st.pending + l.place) (omega (arith, length-append st.pending (next w), l.within))
          (get_or-append-add st.pending (next w) l.place 0 ∙ l.is)
          (λ c o g. elim (class_at c o) [
            | Older u v ↦ subst (λ x. x.waiting ≤ length st.pending + l.place) (sym v) (omega (arith, k.waits c u))
            | Last u v ↦ subst (λ x. x.waiting ≤ length st.pending + l.place) (sym v) (omega arith)
          ])

pub visits : (next : Links) (n : ℕ) (st : State) (w : ℕ) → AreLinks next n → IsHeld next n st w → mark st w ≡ New → IsSearch next n (λ b. b ≡ w) st
    → IsSearch next n (λ b. ⊥) (visited next st w)
visits next n st w links held fresh s = record {
  marked = marked next n st w held fresh s.marked;
  stacked = stacked next n st w held fresh links s.stacked;
  reaching = reaching next n st w held fresh s.stacked s.reaching;
  done = done next n st w held fresh s.marked s.done;
  followed = followed next n st w held fresh s.marked s.stacked s.followed;
}
