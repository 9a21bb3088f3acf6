-- Taking several slots in one step.
use Rattle.std.proofs.Common.{◌≡◌, ℕ, zero, suc, ◌<◌, List, [], ◌∷◌, ◌++◌, length, set, refl, sym, ap, ◌∙◌, subst, arith, ◌==◌, length-set, ⊎_elim}
use mathlib.Core.Option.{Option, some, none, some-injective, some-ne-none}
use mathlib.Core.Logic.{dite}
use native.Mathlib.Decide.{ℕ_discrete}
use lib.ListN.{get_elem?}
use Rattle.atomic_table.specs.Table.{Act, keeps, takes, gives, chain, carried_after, homes_after, Valid}
use Rattle.atomic_table.proofs.Lists.{at_set, set_else, set_here}
use Rattle.fv_graph.specs.Tasks.{bit}
use Rattle.fv_graph.specs.TasksBeside.{times}
use Rattle.fv_ready.specs.Rule.{places, Each}
use Rattle.fv_graph.proofs.lemmas.Counts.{bit_same, bit_apart, total_append}

pub at_below : {A : Type 0} (l : List A) (i : ℕ) (a : A) → get_elem? l i ≡ some a → i < length l
at_below [] i a e = absurd (some-ne-none a (sym e))
at_below (x ∷ xs) zero a e = omega arith
at_below (x ∷ xs) (suc i) a e = let r = at_below xs i a e in omega arith

module _ {S : Type 0} where
  abbrev pub take_all : List (ℕ × S) → Act S
  take_all [] = keeps
  take_all (x ∷ xs) = chain (takes x.0 x.1) (take_all xs)

  abbrev pub onto : List (ℕ × S) → List (ℕ × S) → List (ℕ × S)
  onto [] c = c
  onto (x ∷ xs) c = onto xs ((x.0, x.1) ∷ c)

  abbrev pub AllLie : List (Option S) → List (ℕ × S) → Type 0
  AllLie hs [] = Unit {0}
  AllLie hs (x ∷ xs) = (get_elem? hs x.0 ≡ some (some x.1)) × AllLie hs xs

  -- taken from the back, the slots lie in order
  abbrev pub rev : List (ℕ × S) → List (ℕ × S)
  rev [] = []
  rev (x ∷ xs) = rev xs ++ x ∷ []

  onto_append : (xs ys c : List (ℕ × S)) → onto (xs ++ ys) c ≡ onto ys (onto xs c)
  onto_append [] ys c = refl
  onto_append (x ∷ xs) ys c = onto_append xs ys ((x.0, x.1) ∷ c)

  pub onto_rev : (xs c : List (ℕ × S)) → onto (rev xs) c ≡ xs ++ c
  onto_rev [] c = refl
  onto_rev (x ∷ xs) c = onto_append (rev xs) (x ∷ []) c ∙ ap (λ l. (x.0, x.1) ∷ l) (onto_rev xs c)

  pub places_append : (xs ys : List (ℕ × S)) → places (xs ++ ys) ≡ places xs ++ places ys
  places_append [] ys = refl
  places_append (x ∷ xs) ys = ap (λ l. x.0 ∷ l) (places_append xs ys)

  pub times_rev : (e : ℕ) (xs : List (ℕ × S)) → times e (places (rev xs)) ≡ times e (places xs)
  times_rev e [] = refl
  times_rev e (x ∷ xs) = let a = ap (times e) (places_append (rev xs) (x ∷ [])) in
      let b = total_append (λ y. bit (y == e)) (places (rev xs)) (x.0 ∷ []) in let r = times_rev e xs in omega arith

  pub lie_append : (hs : List (Option S)) (xs ys : List (ℕ × S)) → AllLie hs xs → AllLie hs ys → AllLie hs (xs ++ ys)
  lie_append hs [] ys a b = b
  lie_append hs (x ∷ xs) ys a b = (a.0, lie_append hs xs ys a.1 b)

  pub lie_rev : (hs : List (Option S)) (xs : List (ℕ × S)) → AllLie hs xs → AllLie hs (rev xs)
  lie_rev hs [] a = tt
  lie_rev hs (x ∷ xs) a = lie_append hs (rev xs) (x ∷ []) (lie_rev hs xs a.1) (a.0, tt)

  pub carried_all : (xs c : List (ℕ × S)) → carried_after c (take_all xs) ≡ onto xs c
  carried_all [] c = refl
  carried_all (x ∷ xs) c = carried_all xs ((x.0, x.1) ∷ c)

  pub length_all : (xs c : List (ℕ × S)) (hs : List (Option S)) → length (homes_after hs c (take_all xs)) ≡ length hs
  length_all [] c hs = refl
  length_all (x ∷ xs) c hs = length_all xs ((x.0, x.1) ∷ c) (set hs x.0 none) ∙ length-set hs x.0 none

  pub stays_home : (xs c : List (ℕ × S)) (hs : List (Option S)) (e : ℕ) → times e (places xs) ≡ 0 → get_elem?
      (homes_after hs c (take_all xs)) e ≡ get_elem? hs e
  stays_home [] c hs e h = refl
  stays_home (x ∷ xs) c hs e h = stays_home xs ((x.0, x.1) ∷ c) (set hs x.0 none) e (omega arith) ∙ set_else hs x.0 e none
      (λ q. let o = bit_same x.0 e (sym q) in omega arith)

  pub was_home : (xs c : List (ℕ × S)) (hs : List (Option S)) (e : ℕ) (y : S) → get_elem? (homes_after hs c (take_all xs)) e ≡ some
      (some y) → get_elem? hs e ≡ some (some y)
  was_home [] c hs e y h = h
  was_home (x ∷ xs) c hs e y h = ⊎_elim (λ p. absurd (some-ne-none y (sym p.1))) (λ p. p.1)
      (at_set hs x.0 e none (some y) (was_home xs ((x.0, x.1) ∷ c) (set hs x.0 none) e y h))

  lie_else : (xs : List (ℕ × S)) (hs : List (Option S)) (k : ℕ) → times k (places xs) ≡ 0 → AllLie hs xs → AllLie (set hs k none) xs
  lie_else [] hs k h l = tt
  lie_else (x ∷ xs) hs k h l = (set_else hs k x.0 none (λ q. let o = bit_same x.0 k q in omega arith) ∙ l.0, lie_else xs hs k (omega arith) l.1)

  pub valid_all : (xs c : List (ℕ × S)) (hs : List (Option S)) → ((e : ℕ) → times e (places xs) < 2) → AllLie hs xs → Valid hs c (take_all xs)
  valid_all [] c hs once l = tt
  valid_all (x ∷ xs) c hs once l = let o = bit_same x.0 x.0 refl in let q = once x.0 in
      (l.0, valid_all xs ((x.0, x.1) ∷ c) (set hs x.0 none) (λ e. let r = once e in omega arith) (lie_else xs hs x.0 (omega arith) l.1))

  pub each_at : (P : ℕ → Type 0) (c : List (ℕ × S)) (e : ℕ) → Each (λ k _. P k) c → 0 < times e (places c) → P e
  each_at P [] e h pos = absurd (omega arith)
  each_at P (x ∷ xs) e h pos = dite (ℕ_discrete x.0 e) (λ s. subst P s h.0) (λ n. let o = bit_apart x.0 e n in each_at P xs e h.1 (omega arith))

  -- all the slots that a seat has go back, the last first
  abbrev pub give_all : List (ℕ × S) → Act S
  give_all [] = keeps
  give_all (x ∷ xs) = chain gives (give_all xs)

  pub none_left : (c : List (ℕ × S)) → carried_after c (give_all c) ≡ []
  none_left [] = refl
  none_left (x ∷ xs) = none_left xs

  pub valid_gives : (c : List (ℕ × S)) (hs : List (Option S)) → Valid hs c (give_all c)
  valid_gives [] hs = tt
  valid_gives (x ∷ xs) hs = (tt, valid_gives xs (set hs x.0 (some x.1)))

  -- no other slot changes
  pub others_stay : (c : List (ℕ × S)) (hs : List (Option S)) (e : ℕ) → times e (places c) ≡ 0 → get_elem? (homes_after hs c (give_all c)) e ≡ get_elem? hs e
  others_stay [] hs e h = refl
  others_stay (x ∷ xs) hs e h = others_stay xs (set hs x.0 (some x.1)) e (omega arith) ∙ set_else hs x.0 e (some x.1)
      (λ q. let o = bit_same x.0 e (sym q) in omega arith)

  pub length_gives : (c : List (ℕ × S)) (hs : List (Option S)) → length (homes_after hs c (give_all c)) ≡ length hs
  length_gives [] hs = refl
  length_gives (x ∷ xs) hs = length_gives xs (set hs x.0 (some x.1)) ∙ length-set hs x.0 (some x.1)

  -- what lies at home then lay there, or was given back
  pub home_then : (P : ℕ → S → Type 0) (c : List (ℕ × S)) (hs : List (Option S)) (e : ℕ) (y : S) →
      ((k : ℕ) (x : S) → get_elem? hs k ≡ some (some x) → P k x) → Each P c → get_elem? (homes_after hs c (give_all c)) e ≡ some (some y) → P e y
  home_then P [] hs e y old each is = old e y is
  home_then P (x ∷ xs) hs e y old each is = home_then P xs (set hs x.0 (some x.1)) e y
      (λ k z h. ⊎_elim (λ (p : (k ≡ x.0) × (some x.1 ≡ some z)). subst (λ (q : ℕ × S). P q.0 q.1)
      (λ i. (sym p.0 i, some-injective x.1 z p.1 i)) each.0) (λ p. old k z p.1) (at_set hs x.0 k (some x.1) (some z) h))
      each.1 is

  -- the slots in front go back, and the others stay
  pub front_homes : (xs ys : List (ℕ × S)) (hs : List (Option S)) → homes_after hs (xs ++ ys) (give_all xs) ≡ homes_after hs xs (give_all xs)
  front_homes [] ys hs = refl
  front_homes (x ∷ xs) ys hs = front_homes xs ys (set hs x.0 (some x.1))

  pub front_left : (xs ys : List (ℕ × S)) → carried_after (xs ++ ys) (give_all xs) ≡ ys
  front_left [] ys = refl
  front_left (x ∷ xs) ys = front_left xs ys

  pub front_valid : (xs ys : List (ℕ × S)) (hs : List (Option S)) → Valid hs (xs ++ ys) (give_all xs)
  front_valid [] ys hs = tt
  front_valid (x ∷ xs) ys hs = (tt, front_valid xs ys (set hs x.0 (some x.1)))

  -- what was given back lies at home
  pub given_at : (xs : List (ℕ × S)) (e : ℕ) (x : S) (ys : List (ℕ × S)) (hs : List (Option S)) → times e (places ys) ≡ 0 → e < length hs →
      get_elem? (homes_after hs (xs ++ (e, x) ∷ ys) (give_all (xs ++ (e, x) ∷ ys))) e ≡ some (some x)
  given_at [] e x ys hs h l = others_stay ys (set hs e (some x)) e h ∙ set_here hs e (some x) l
  given_at (y ∷ xs) e x ys hs h l = given_at xs e x ys (set hs y.0 (some y.1)) h (let q = length-set hs y.0 (some y.1) in omega arith)
