-- Where the slot of an edge stands.
use Rattle.std.proofs.Common.{◌≡◌, ℕ, ◌+◌, ◌-◌, ◌<◌, cond, not, List, [], ◌∷◌, ◌++◌, length, refl}
use Rattle.std.proofs.Common.{sym, ap, ◌∙◌, subst, arith, ◌==◌, eq-eqb, ne_eqb, lt-ltb, Option, Some, None, length-append}
use Rattle.std.specs.List.{remove, position, position_or_len}
use mathlib.Core.Logic.{dite}
use native.Mathlib.Decide.{ℕ_discrete}
use Rattle.fv_graph.specs.TasksBeside.{times}
use Rattle.fv_graph.proofs.lemmas.Counts.{bit_apart}
use Rattle.fv_ready.specs.Rule.{places}
use Rattle.fv_ready.specs.inner.Spun.{spun}
use Rattle.fv_ready.specs.Carried.{slot_at, with_slot, but_slot}
use Rattle.fv_ready.proofs.lemmas.Taking.{places_append}
use Rattle.fv_ready.proofs.lemmas.Hands.{cut_at, long_places, slot_first, with_first, but_first}
use Rattle.fv_ready.proofs.lemmas.Spins.{spun_at}
use Rattle.fv_ready.specs.declared.seat.WorkerSeat.{WorkerSeat}
use Rattle.fv_ready.specs.Seats.{IsPlaceOf, slots_of}

-- the first place of an edge
pub record Found (edges : List ℕ) (edge place : ℕ) : Type 0 where
  pub xs : List ℕ
  pub ys : List ℕ
  pub is : edges ≡ xs ++ edge ∷ ys
  pub at : place ≡ length xs
  pub first : times edge xs ≡ 0

pub found : (edges : List ℕ) (edge : ℕ) → 0 < times edge edges → Found edges edge (position_or_len (λ e. e == edge) edges)
found [] edge pos = absurd (omega arith)
found (x ∷ xs) edge pos = dite (ℕ_discrete x edge)
    (λ s. subst (λ b. Found (x ∷ xs) edge (cond (not b) (1 + position_or_len (λ e. e == edge) xs) 0)) (sym (eq-eqb x edge s))
    (record { xs = []; ys = xs; is = ap (λ k. k ∷ xs) s; at = refl; first = refl }))
    (λ n. let o = bit_apart x edge n in let r = found xs edge (omega arith) in
    subst (λ b. Found (x ∷ xs) edge (cond (not b) (1 + position_or_len (λ e. e == edge) xs) 0)) (sym (ne_eqb x edge n))
    (record { xs = x ∷ r.xs; ys = r.ys; is = ap (λ l. x ∷ l) r.is; at = let a = r.at in omega arith; first = let f = r.first in omega arith }))

pub found_some : (edges : List ℕ) (edge : ℕ) → 0 < times edge edges → position (λ e. e == edge) edges ≡ Some (position_or_len (λ e. e == edge) edges)
found_some edges edge pos = let f = found edges edge pos in let l = ap length f.is ∙ length-append f.xs (edge ∷ f.ys) in let a = f.at in
    ap (λ b. cond b (Some (position_or_len (λ e. e == edge) edges)) None) (lt-ltb (position_or_len (λ e. e == edge) edges) (length edges) (omega arith))

pub remove_at : (xs : List ℕ) (e : ℕ) (ys : List ℕ) (k : ℕ) → k ≡ length xs → remove (xs ++ e ∷ ys) k ≡ xs ++ ys
remove_at xs e ys k is = ap (remove (xs ++ e ∷ ys)) is ∙ here xs
  where
    here : (xs : List ℕ) → remove (xs ++ e ∷ ys) (length xs) ≡ xs ++ ys
    here [] = refl
    here (x ∷ xs) = ap (λ l. x ∷ l) (here xs)

-- a list of slots at the first one of an edge
pub record Parted {C : Type 0} (c : List (ℕ × Option C)) (xs ys : List ℕ) (e : ℕ) : Type 0 where
  pub front : List (ℕ × Option C)
  pub x : Option C
  pub back : List (ℕ × Option C)
  pub is : c ≡ front ++ (e, x) ∷ back
  pub front_at : places front ≡ xs
  pub back_at : places back ≡ ys

pub part : {C : Type 0} (c : List (ℕ × Option C)) (xs ys : List ℕ) (e : ℕ) → places c ≡ xs ++ e ∷ ys → Parted c xs ys e
part {C} c xs ys e h = let r = cut_at c xs (e ∷ ys) h in open_back r.front r.back r.is r.front_at r.back_at
  where
    open_back : (front back : List (ℕ × Option C)) → c ≡ front ++ back → places front ≡ xs → places back ≡ e ∷ ys → Parted c xs ys e
    open_back front [] is f b = absurd (cc)
    open_back front (y ∷ back) is f b = record {
      front = front;
      x = y.1;
      back = back;
      is = is ∙ ap (λ k. front ++ (k, y.1) ∷ back)
          (let q : y.0 ≡ e = cc in q);
      front_at = f;
      back_at = (let q : places back ≡ ys = cc in q);
    }

module _ {C : Type 0} (c : List (ℕ × Option C)) (xs ys : List ℕ) (e : ℕ) (p : Parted c xs ys e) (first : times e xs ≡ 0) where
  long_front : length p.front ≡ length xs
  long_front = sym (long_places p.front) ∙ ap length p.front_at

  long_back : length p.back ≡ length ys
  long_back = sym (long_places p.back) ∙ ap length p.back_at

  none_before : times e (places p.front) ≡ 0
  none_before = ap (times e) p.front_at ∙ first

  pub slot_is : slot_at c e ≡ p.x
  slot_is = ap (λ l. slot_at l e) p.is ∙ slot_first p.front e p.x p.back none_before

  pub with_is : (y : Option C) → with_slot c e y ≡ p.front ++ (e, y) ∷ p.back
  with_is y = ap (λ l. with_slot l e y) p.is ∙ with_first p.front e p.x y p.back none_before

  pub but_is : but_slot c e ≡ p.front ++ p.back
  but_is = ap (λ l. but_slot l e) p.is ∙ but_first p.front e p.x p.back none_before

  -- turned until the slot stands in front
  pub turned_to : (k : ℕ) → k ≡ length xs → spun k c ≡ (e, p.x) ∷ (p.back ++ p.front)
  turned_to k is = ap (spun k) p.is ∙ spun_at k p.front ((e, p.x) ∷ p.back) (is ∙ sym long_front)

  -- and turned on, with another value there
  pub turned_with : (k : ℕ) (y : Option C) → k ≡ length ys + 1 → spun k ((e, y) ∷ (p.back ++ p.front)) ≡ with_slot c e y
  turned_with k y is = spun_at k ((e, y) ∷ p.back) p.front (is ∙ (let l = long_back in omega arith)) ∙ sym (with_is y)

  -- or without it
  pub turned_but : (k : ℕ) → k ≡ length ys → spun k (p.back ++ p.front) ≡ but_slot c e
  turned_but k is = spun_at k p.back p.front (is ∙ sym long_back) ∙ sym but_is

  pub places_but : places (but_slot c e) ≡ xs ++ ys
  places_but = ap places but_is ∙ places_append p.front p.back ∙ (λ i. p.front_at i ++ p.back_at i)

-- a seat's list of edges mirrors its slots, and an edge stands first at a place of that list
pub record AtPlace {C : Type 0} (s : WorkerSeat C) (edges : List ℕ) (e place : ℕ) : Type 0 where
  pub mirror : places (slots_of s) ≡ s.edges.items
  pub same : edges ≡ s.edges.items
  pub at : IsPlaceOf edges e place

pub at_place : {C : Type 0} (s : WorkerSeat C) (edges : List ℕ) (e place : ℕ) → places (slots_of s) ≡ s.edges.items → edges ≡ s.edges.items →
    IsPlaceOf edges e place → AtPlace s edges e place
at_place s edges e place mirror same at = record { mirror = mirror; same = same; at = at }

module _ {C : Type 0} {s : WorkerSeat C} {edges : List ℕ} {e place : ℕ} (h : AtPlace s edges e place) where
  abbrev pub placed : Parted (slots_of s) h.at.0 h.at.1 e
  placed = part (slots_of s) h.at.0 h.at.1 e (h.mirror ∙ sym h.same ∙ h.at.2)

  pub in_front : (l : List (ℕ × Option C)) → l ≡ spun place (slots_of s) → l ≡ (e, placed.x) ∷ (placed.back ++ placed.front)
  in_front l is = is ∙ turned_to (slots_of s) h.at.0 h.at.1 e placed h.at.4 place h.at.3

  pub held_is : slot_at (slots_of s) e ≡ placed.x
  held_is = slot_is (slots_of s) h.at.0 h.at.1 e placed h.at.4

  pub long_items : length s.edges.items ≡ place + 1 + length h.at.1
  long_items = let l = ap length (sym h.same ∙ h.at.2) ∙ length-append h.at.0 (e ∷ h.at.1) in let p = h.at.3 in omega arith

  pub back_with : (k : ℕ) (y : Option C) → k ≡ length s.edges.items - place → spun k ((e, y) ∷ (placed.back ++ placed.front)) ≡ with_slot (slots_of s) e y
  back_with k y is = turned_with (slots_of s) h.at.0 h.at.1 e placed h.at.4 k y (let l = long_items in omega arith)

  pub back_but : (k : ℕ) → k ≡ length s.edges.items - 1 - place → spun k (placed.back ++ placed.front) ≡ but_slot (slots_of s) e
  back_but k is = turned_but (slots_of s) h.at.0 h.at.1 e placed h.at.4 k (let l = long_items in omega arith)

  pub mirror_but : (left : List ℕ) → left ≡ remove s.edges.items place → places (but_slot (slots_of s) e) ≡ left
  mirror_but left is = places_but (slots_of s) h.at.0 h.at.1 e placed h.at.4
      ∙ sym (is ∙ ap (λ l. remove l place) (sym h.same ∙ h.at.2) ∙ remove_at h.at.0 e h.at.1 place h.at.3)
