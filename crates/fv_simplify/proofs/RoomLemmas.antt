-- Rooms that are found signal by signal.
use Rattle.std.proofs.Common.{◌≡◌, ◌⊎◌, ℕ, ◌<◌, ◌≤◌, ◌+◌, List, length, get_or, replicate}
use Rattle.std.proofs.Common.{refl, sym, ap, ◌∙◌, subst, arith, inl, inr, ℤ, pos, negsuc, Some, None, max}
use Rattle.std.proofs.Common.{Bool}
use Rattle.std.specs.Prelude.{Option, slice_set, ◌≤ℤ◌}
use Rattle.std.proofs.lemmas.Bool.{cases_lt, cases_eq}
use Rattle.std.proofs.lemmas.Int.{ints}
use Rattle.std.proofs.lemmas.List.{get_or-set_same, get_or-set_other, get_or-replicate, get_or_past, length-replicate}
use Rattle.fv_signal.specs.declared.signal.Signal.{Signal}
use Rattle.fv_signal.specs.declared.signal.Signal.TheVariants.{Input, Const, Control, Point, Delay, Back, Member, Read, Write}
use Rattle.fv_signal.specs.headline.Value.{Graph}
use Rattle.fv_simplify.specs.Nodes.{node, StandsAt, number_at}
use Rattle.fv_simplify.specs.Rebuilt.{IsMarked, IsRoom}
use Rattle.fv_simplify.specs.Passing.{room_in}
use Rattle.fv_simplify.specs.inner.Rooms.{room_with, rooms_after}
use Rattle.fv_simplify.proofs.lemmas.Origins.{number_node}

-- a marked signal before place n
abbrev pub Before : List Bool → (n s : ℕ) → Type 0
Before marks n s = (s < n) × IsMarked marks s

-- what makes a room
record IsWith (old : Option ℕ) (by : Option ℤ) (q : ℕ) : Type 0 where
  most : ℕ
  number : ℤ
  old_is : old ≡ Some most
  by_is : by ≡ Some number
  more : most ≤ q
  above : number ≤ℤ pos q
  full : (q ≡ most) ⊎ (number ≡ pos q)

with_some : (old : Option ℕ) (by : Option ℤ) (q : ℕ) → room_with old by ≡ Some q → IsWith old by q
with_some None by q e = absurd cc
with_some (Some m) None q e = absurd cc
with_some (Some m) (Some (negsuc n)) q e = let z : m ≡ q = cc in record {
  most = m;
  number = negsuc n;
  old_is = refl;
  by_is = refl;
  more = omega (arith, z);
  above = omega (arith, ints);
  full = inl (sym z);
}
with_some (Some m) (Some (pos n)) q e = let z : max m n ≡ q = cc in record {
  most = m;
  number = pos n;
  old_is = refl;
  by_is = refl;
  more = omega (arith, z);
  above = omega (arith, ints, z);
  full = elim (cases_lt m n) [ inl l ↦ inr (ap pos (omega (arith, l, z))) | inr l ↦ inl (omega (arith, l, z)) ];
}

with_none : (old : Option ℕ) (by : Option ℤ) → room_with old by ≡ None → (old ≡ None) ⊎ (by ≡ None)
with_none None by e = inl refl
with_none (Some m) None e = inr refl
with_none (Some m) (Some (pos n)) e = absurd cc
with_none (Some m) (Some (negsuc n)) e = absurd cc

-- in the beginning there is room for a delay by 0 at each signal
pub begun_rooms : (g : Graph) (marks : List Bool) (n : ℕ) → n ≡ length g.signals → IsRoom g (Before marks 0) (room_in (replicate n (Some 0)))
begun_rooms g marks n long = record {
  safe = λ x q s d most e st p. absurd (let l = p.0 in omega (arith, l));
  full = λ x q e l. absurd (nothing x q e l);
  none = λ x l e. absurd (let is = get_or-replicate n x (Some 0) None (omega (arith, l, long)) in let both = sym is ∙ e in cc);
}
  where
    nothing : (x q : ℕ) → room_in (replicate n (Some 0)) x ≡ Some q → 0 < q → ⊥
    nothing x q e l = elim (cases_lt x n) [
      | inl m ↦
          let is = get_or-replicate n x (Some 0) None m in
          let both : Some 0 ≡ Some q = sym is ∙ e in
          let z : 0 ≡ q = cc in
          omega (arith, l, z)
      | inr m ↦
          let is = get_or_past (replicate n (Some 0)) x None (let k = length-replicate {A = Option ℕ} n (Some 0) in omega (arith, k, m)) in
          let both = sym is ∙ e in absurd cc
    ]

module _ (g : Graph) (marks : List Bool) (n : ℕ) (here : n < length g.signals) where
  -- a signal that is no delay, or is not marked, changes nothing
  pub same_rooms : (room : ℕ → Option ℕ) → ((x d most : ℕ) → IsMarked marks n → node g n ≡ Delay x d most → ⊥) → IsRoom g (Before marks n) room
      → IsRoom g (Before marks (n + 1)) room
  same_rooms room never h = record {
    safe = λ x q s d most e st p. h.safe x q s d most e st (earlier s x d most st p);
    full = λ x q e l. let r = h.full x q e l in let p = r.4 in (r.0, r.1, r.2, r.3, (let l = p.0 in omega (arith, l), p.1), r.5);
    none = λ x l e. let r = h.none x l e in let p = r.4 in (r.0, r.1, r.2, r.3, (let l = p.0 in omega (arith, l), p.1), r.5);
  }
    where
      earlier : (s x d most : ℕ) → StandsAt g s (Delay x d most) → Before marks (n + 1) s → Before marks n s
      earlier s x d most st p = elim (cases_lt s n) [
        | inl l ↦ (l, p.1)
        | inr l ↦
            let m = p.0 in
            let at : s ≡ n = omega (arith, l, m) in
            absurd (never x d most (subst (IsMarked marks) at p.1) (sym (ap (node g) at) ∙ st.is))
      ]

  -- a delay more
  module _ (rooms : List (Option ℕ)) (x d most : ℕ) (is : node g n ≡ Delay x d most) (marked : IsMarked marks n) (there : x < length rooms)
      (h : IsRoom g (Before marks n) (room_in rooms)) where
    abbrev new : List (Option ℕ)
    new = slice_set rooms x (room_with (get_or rooms x None) (number_at g d))

    at_it : room_in new x ≡ room_with (get_or rooms x None) (number_at g d)
    at_it = get_or-set_same rooms x (room_with (get_or rooms x None) (number_at g d)) None there

    other : (y : ℕ) → (y ≡ x → ⊥) → room_in new y ≡ room_in rooms y
    other y ne = get_or-set_other rooms x y (room_with (get_or rooms x None) (number_at g d)) None ne

    it : StandsAt g n (Delay x d most)
    it = record { within = here; is = is }

    now : Before marks (n + 1) n
    now = (omega arith, marked)

    later : (s : ℕ) → Before marks n s → Before marks (n + 1) s
    later s p = (let l = p.0 in omega (arith, l), p.1)

    known : (c : ℤ) → number_at g d ≡ Some c → node g d ≡ Const c
    known c e = number_node (node g d) c e

    safe_at : (q s e most' : ℕ) → IsWith (get_or rooms x None) (number_at g d) q → StandsAt g s (Delay x e most') → Before marks (n + 1) s
        → (c : ℤ) × (node g e ≡ Const c) × (c ≤ℤ pos q)
    safe_at q s e most' w st p = elim (cases_lt s n) [
      | inl l ↦
          let r = h.safe x w.most s e most' w.old_is st (l, p.1) in
          let a = r.2 in
          let b = w.more in
          (r.0, r.1, omega (arith, ints, a, b))
      | inr l ↦
          let m = p.0 in
          let at : s ≡ n = omega (arith, l, m) in
          let both = sym is ∙ sym (ap (node g) at) ∙ st.is in
          let same : d ≡ e = cc in
          (w.number, sym (ap (node g) same) ∙ known w.number w.by_is, w.above)
    ]

    safe_other : (y q s e most' : ℕ) → (y ≡ x → ⊥) → room_in rooms y ≡ Some q → StandsAt g s (Delay y e most') → Before marks (n + 1) s
        → (c : ℤ) × (node g e ≡ Const c) × (c ≤ℤ pos q)
    safe_other y q s e most' ne r st p = elim (cases_lt s n) [
      | inl l ↦ h.safe y q s e most' r st (l, p.1)
      | inr l ↦
          let m = p.0 in
          let at : s ≡ n = omega (arith, l, m) in
          let both = sym is ∙ sym (ap (node g) at) ∙ st.is in
          let same : y ≡ x = cc in absurd (ne same)
    ]

    abbrev Full : ℕ → ℕ → Type 0
    Full y q = (s : ℕ) × (e : ℕ) × (k : ℕ) × StandsAt g s (Delay y e k) × Before marks (n + 1) s × (node g e ≡ Const (pos q))

    full_old : (y q : ℕ) → room_in rooms y ≡ Some q → 0 < q → Full y q
    full_old y q e l = let r = h.full y q e l in (r.0, r.1, r.2, r.3, later r.0 r.4, r.5)

    full_at : (q : ℕ) → IsWith (get_or rooms x None) (number_at g d) q → 0 < q → Full x q
    full_at q w l = elim w.full [
      | inl z ↦ full_old x q (w.old_is ∙ ap (λ k. Some k) (sym z)) l
      | inr z ↦ (n, d, most, it, now, known w.number w.by_is ∙ ap Const z)
    ]

    abbrev Varies : ℕ → Type 0
    Varies y = (s : ℕ) × (e : ℕ) × (k : ℕ) × StandsAt g s (Delay y e k) × Before marks (n + 1) s × (number_at g e ≡ None)

    none_old : (y : ℕ) → y < length g.signals → room_in rooms y ≡ None → Varies y
    none_old y l e = let r = h.none y l e in (r.0, r.1, r.2, r.3, later r.0 r.4, r.5)

    pub more_rooms : IsRoom g (Before marks (n + 1)) (room_in new)
    more_rooms = record {
      safe = λ y q s e k r st p. elim (cases_eq y x) [
        | inl z ↦ safe_at q s e k (with_some (get_or rooms x None) (number_at g d) q (sym at_it ∙ ap (room_in new) (sym z) ∙ r))
            (subst (λ i. StandsAt g s (Delay i e k)) z st) p
        | inr ne ↦ safe_other y q s e k ne (sym (other y ne) ∙ r) st p
      ];
      full = λ y q r l. elim (cases_eq y x) [
        | inl z ↦ subst (λ i. Full i q) (sym z) (full_at q (with_some (get_or rooms x None) (number_at g d) q (sym at_it ∙ ap (room_in new) (sym z) ∙ r)) l)
        | inr ne ↦ full_old y q (sym (other y ne) ∙ r) l
      ];
      none = λ y l r. elim (cases_eq y x) [
        | inl z ↦ subst Varies (sym z) (elim (with_none (get_or rooms x None) (number_at g d) (sym at_it ∙ ap (room_in new) (sym z) ∙ r)) [
          | inl o ↦ none_old x (subst (λ i. i < length g.signals) z l) o
          | inr b ↦ (n, d, most, it, now, b)
        ])
        | inr ne ↦ none_old y l (sym (other y ne) ∙ r)
      ];
    }

  -- any marked signal
  pub next_rooms : (rooms : List (Option ℕ)) → IsMarked marks n → ((x d most : ℕ) → node g n ≡ Delay x d most → x < length rooms)
      → IsRoom g (Before marks n) (room_in rooms) → IsRoom g (Before marks (n + 1)) (room_in (rooms_after g rooms (node g n)))
  next_rooms rooms marked there h = go (node g n) refl
    where
      go : (m : Signal) → node g n ≡ m → IsRoom g (Before marks (n + 1)) (room_in (rooms_after g rooms m))
      go (Delay x d most) e = more_rooms rooms x d most e marked (there x d most e) h
      go (Input k) e = same_rooms (room_in rooms) (λ x d most m i. let both = sym e ∙ i in absurd cc) h
      go (Const k) e = same_rooms (room_in rooms) (λ x d most m i. let both = sym e ∙ i in absurd cc) h
      go (Control k) e = same_rooms (room_in rooms) (λ x d most m i. let both = sym e ∙ i in absurd cc) h
      go (Point op args) e = same_rooms (room_in rooms) (λ x d most m i. let both = sym e ∙ i in absurd cc) h
      go (Back group k) e = same_rooms (room_in rooms) (λ x d most m i. let both = sym e ∙ i in absurd cc) h
      go (Member group k) e = same_rooms (room_in rooms) (λ x d most m i. let both = sym e ∙ i in absurd cc) h
      go (Read table k) e = same_rooms (room_in rooms) (λ x d most m i. let both = sym e ∙ i in absurd cc) h
      go (Write table w y k) e = same_rooms (room_in rooms) (λ x d most m i. let both = sym e ∙ i in absurd cc) h

-- all of them
pub all_rooms : (g : Graph) (marks : List Bool) (room : ℕ → Option ℕ) → IsRoom g (Before marks (length g.signals)) room → IsRoom g (IsMarked marks) room
all_rooms g marks room h = record {
  safe = λ x q s d most e st m. h.safe x q s d most e st (st.within, m);
  full = λ x q e l. let r = h.full x q e l in let p = r.4 in (r.0, r.1, r.2, r.3, p.1, r.5);
  none = λ x l e. let r = h.none x l e in let p = r.4 in (r.0, r.1, r.2, r.3, p.1, r.5);
}
