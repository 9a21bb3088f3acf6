-- The first place at which a test passes, in lists that are put together.
use Rattle.std.proofs.Common.{◌≡◌, ℕ, suc, ◌+◌, ◌<◌, ◌≤◌, Bool, true, false, not, List, [], ◌∷◌, ◌++◌, length, map, refl, sym, ap, ◌∙◌, arith}
use Rattle.std.proofs.Common.{Option, Some, None, ⊎_elim}
use Rattle.std.specs.Prelude.{position, nat_lt, if◌then◌else◌}
use Rattle.std.specs.Option.{option_map}
use Rattle.std.specs.List.{position_or_len}
use Rattle.std.proofs.lemmas.Bool.{cases_lt, lt-ltb, le-ltb, ltb-true}

-- a place, if it lies in front of an end
abbrev in_front_of : (n m : ℕ) → Option ℕ
in_front_of n m = if nat_lt n m then Some n else None

further : (n m : ℕ) → in_front_of (1 + n) (suc m) ≡ option_map suc (in_front_of n m)
further n m =
    ⊎_elim (λ (w : n < m). let a = lt-ltb (1 + n) (suc m) (omega arith) in let b = lt-ltb n m w in rw (a, b) (ap Some (omega arith)))
    (λ (w : m ≤ n). let a = le-ltb (1 + n) (suc m) (omega arith) in let b = le-ltb n m w in rw (a, b) refl) (cases_lt n m)

at_first : (m : ℕ) → in_front_of 0 (suc m) ≡ Some 0
at_first m = let a = lt-ltb 0 (suc m) (omega arith) in rw a refl

position_step : {A : Type 0} (p : A → Bool) (x : A) (xs : List A) → position p (x ∷ xs) ≡ (if p x then Some 0 else option_map suc (position p xs))
position_step p x xs = go (p x)
  where
    go : (b : Bool) → in_front_of (if not b then 1 + position_or_len p xs else 0) (suc (length xs)) ≡ (if b then Some 0 else option_map suc (position p xs))
    go true = at_first (length xs)
    go false = further (position_or_len p xs) (length xs)

-- the first of two places
abbrev pub either : Option ℕ → Option ℕ → Option ℕ
either None o = o
either (Some i) o = Some i

none_before : (o : Option ℕ) → o ≡ option_map (λ i. 0 + i) o
none_before None = refl
none_before (Some i) = ap Some (omega arith)

one_before : (n : ℕ) (a o : Option ℕ) → option_map suc (either a (option_map (λ i. n + i) o)) ≡ either (option_map suc a) (option_map (λ i. suc n + i) o)
one_before n None None = refl
one_before n None (Some i) = ap Some (omega arith)
one_before n (Some j) o = refl

pub position-append : {A : Type 0} (p : A → Bool) (xs ys : List A)
    → position p (xs ++ ys) ≡ either (position p xs) (option_map (λ i. length xs + i) (position p ys))
position-append p [] ys = none_before (position p ys)
position-append p (x ∷ xs) ys =
    position_step p x (xs ++ ys)
    ∙ ap (λ o. if p x then Some 0 else option_map suc o) (position-append p xs ys)
    ∙ go (p x)
    ∙ ap (λ o. either o (option_map (λ i. suc (length xs) + i) (position p ys))) (sym (position_step p x xs))
  where
    go : (b : Bool) → (if b then Some 0 else option_map suc (either (position p xs) (option_map (λ i. length xs + i) (position p ys))))
        ≡ either (if b then Some 0 else option_map suc (position p xs)) (option_map (λ i. suc (length xs) + i) (position p ys))
    go true = refl
    go false = one_before (length xs) (position p xs) (position p ys)

pub position-map : {A B : Type 0} (p : B → Bool) (q : A → Bool) (f : A → B) → ((x : A) → p (f x) ≡ q x) → (xs : List A) → position p (map f xs) ≡ position q xs
position-map p q f same [] = refl
position-map p q f same (x ∷ xs) =
    position_step p (f x) (map f xs)
    ∙ ap (λ o. if p (f x) then Some 0 else option_map suc o) (position-map p q f same xs)
    ∙ ap (λ b. if b then Some 0 else option_map suc (position q xs)) (same x)
    ∙ sym (position_step q x xs)

pub position_none : {A B : Type 0} (p : B → Bool) (f : A → B) → ((x : A) → p (f x) ≡ false) → (xs : List A) → position p (map f xs) ≡ None
position_none p f none [] = refl
position_none p f none (x ∷ xs) =
    position_step p (f x) (map f xs)
    ∙ ap (λ b. if b then Some 0 else option_map suc (position p (map f xs))) (none x)
    ∙ ap (option_map suc) (position_none p f none xs)

-- it lies within the list
place_within : (n m k : ℕ) (b : Bool) → nat_lt n m ≡ b → (if b then Some n else None) ≡ Some k → k < m
place_within n m k true t e = let f : n ≡ k = cc in let l = ltb-true n m t in omega arith
place_within n m k false t e = absurd (cc)

pub position_within : {A : Type 0} (p : A → Bool) (xs : List A) (k : ℕ) → position p xs ≡ Some k → k < length xs
position_within p xs k e = place_within (position_or_len p xs) (length xs) k (nat_lt (position_or_len p xs) (length xs)) refl e
