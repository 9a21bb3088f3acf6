-- Sets of places, with a bit for each.
use Rattle.std.proofs.Common.{◌≡◌, ◌⊎◌, ℕ, ◌+◌, ◌-◌, ◌*◌, ◌/◌, ◌%◌, ◌^◌, ◌<◌, ◌≤◌, min, arith, true, false, List, [], ◌∷◌, ◌++◌, length, take}
use Rattle.std.proofs.Common.{get_or, set, nat_eq, bit_and, bit_or, inl, inr, sym, ap, ap₂, subst, ◌∙◌}
use Rattle.std.specs.Int.{bit_at, w64, trailing_zeros}
use Rattle.std.proofs.lemmas.Bool.{eq-eqb, eqb-true, cases_eq, cases_lt}
use Rattle.std.proofs.lemmas.List.{get_or_past, get_or_append_left, get_or-set_same, get_or-set_other, get_or-take}
use Rattle.std.proofs.lemmas.Nat.{pow-add}
use Rattle.std.proofs.lemmas.Nat.Bits.{bit_at-zero, bit_at_and, bit_at_set_same, bit_at_set_other, bit_at_above, bit_at-trailing_zeros}
use Rattle.std.proofs.Math.Nat.{div-div-eq-div-mul, div-le_self}
use Rattle.fv_eval_patterns.specs.Bits.{has}

-- the bit of a place
abbrev pub bit_of : List ℕ → ℕ → ℕ
bit_of xs j = bit_at (get_or xs (j / 64) 0) (j % 64)

bit_is : (xs : List ℕ) (j : ℕ) → has xs j ≡ true → bit_of xs j ≡ 1
unfolding has
bit_is xs j h = eqb-true (bit_of xs j) 1 h

is_in : (xs : List ℕ) (j : ℕ) → bit_of xs j ≡ 1 → has xs j ≡ true
unfolding has
is_in xs j h = eq-eqb (bit_of xs j) 1 h

-- a place whose bit is 0 is not there
is_out : (xs : List ℕ) (j : ℕ) → bit_of xs j ≡ 0 → has xs j ≡ false
unfolding has
is_out xs j h = ap (λ b. nat_eq b 1) h

-- a place that is there is in a word that is there
inside : (xs : List ℕ) (j : ℕ) → has xs j ≡ true → j / 64 < length xs
inside xs j h = go (cases_lt (j / 64) (length xs))
  where
    go : (j / 64 < length xs) ⊎ (length xs ≤ j / 64) → j / 64 < length xs
    go (inl l) = l
    go (inr g) =
        let none : bit_of xs j ≡ 0 = ap (λ n. bit_at n (j % 64)) (get_or_past xs (j / 64) 0 g) ∙ bit_at-zero (j % 64) in
        let one : bit_of xs j ≡ 1 = bit_is xs j h in
        absurd (omega (arith, none, one))

-- ---- one place more

-- a word more
pub grown_has : (xs : List ℕ) (j : ℕ) → has xs j ≡ true → has (xs ++ 0 ∷ []) j ≡ true
grown_has xs j h =
    is_in (xs ++ 0 ∷ []) j (ap (λ n. bit_at n (j % 64)) (get_or_append_left xs (0 ∷ []) 0 (j / 64) (inside xs j h)) ∙ bit_is xs j h)

-- a word with a place's bit set
abbrev pub with_bit : List ℕ → ℕ → ℕ
with_bit xs place = bit_or (get_or xs (place / 64) 0) (1 * 2 ^ (place % 64) % 2 ^ 64)

pub set_has : (xs : List ℕ) (place : ℕ) → place / 64 < length xs → has (set xs (place / 64) (with_bit xs place)) place ≡ true
set_has xs place l =
    is_in (set xs (place / 64) (with_bit xs place)) place
    (ap (λ n. bit_at n (place % 64)) (get_or-set_same xs (place / 64) (with_bit xs place) 0 l)
    ∙ bit_at_set_same w64 (get_or xs (place / 64) 0) (place % 64) (omega arith))

pub set_keeps : (xs : List ℕ) (place j : ℕ) → place / 64 < length xs → has xs j ≡ true → has (set xs (place / 64) (with_bit xs place)) j ≡ true
set_keeps xs place j l h = is_in ys j (word (cases_eq (j / 64) (place / 64)))
  where
    ys : List ℕ
    ys = set xs (place / 64) (with_bit xs place)

    bit : (j / 64 ≡ place / 64) → (j % 64 ≡ place % 64) ⊎ (j % 64 ≡ place % 64 → ⊥) → bit_at (with_bit xs place) (j % 64) ≡ 1
    bit e (inl f) = ap (λ k. bit_at (with_bit xs place) k) f ∙ bit_at_set_same w64 (get_or xs (place / 64) 0) (place % 64) (omega arith)
    bit e (inr n) =
        bit_at_set_other w64 (get_or xs (place / 64) 0) (place % 64) (omega arith) (j % 64) n
        ∙ ap (λ i. bit_at (get_or xs i 0) (j % 64)) (sym e) ∙ bit_is xs j h

    word : (j / 64 ≡ place / 64) ⊎ (j / 64 ≡ place / 64 → ⊥) → bit_of ys j ≡ 1
    word (inl e) =
        ap (λ i. bit_at (get_or ys i 0) (j % 64)) e
        ∙ ap (λ n. bit_at n (j % 64)) (get_or-set_same xs (place / 64) (with_bit xs place) 0 l)
        ∙ bit e (cases_eq (j % 64) (place % 64))
    word (inr n) =
        ap (λ m. bit_at m (j % 64)) (get_or-set_other xs (place / 64) (j / 64) (with_bit xs place) 0 n) ∙ bit_is xs j h

-- ---- those alone that are among others

pub cut_has : (xs ys : List ℕ) (n j : ℕ) → n ≡ length ys → has xs j ≡ true → has ys j ≡ true → has (take n xs) j ≡ true
cut_has xs ys n j e h k =
    let l : j / 64 < n = omega (arith, e, inside ys j k) in
    is_in (take n xs) j (ap (λ m. bit_at m (j % 64)) (get_or-take n xs (j / 64) 0 l) ∙ bit_is xs j h)

pub both_have : (xs ys : List ℕ) (i j : ℕ) → i < length xs → has xs j ≡ true → has ys j ≡ true
    → has (set xs i (bit_and (get_or xs i 0) (get_or ys i 0))) j ≡ true
both_have xs ys i j l h k = is_in zs j (word (cases_eq (j / 64) i))
  where
    v : ℕ
    v = bit_and (get_or xs i 0) (get_or ys i 0)

    zs : List ℕ
    zs = set xs i v

    word : (j / 64 ≡ i) ⊎ (j / 64 ≡ i → ⊥) → bit_of zs j ≡ 1
    word (inl e) =
        ap (λ q. bit_at (get_or zs q 0) (j % 64)) e
        ∙ ap (λ n. bit_at n (j % 64)) (get_or-set_same xs i v 0 l)
        ∙ bit_at_and (get_or xs i 0) (get_or ys i 0) (j % 64)
        ∙ ap₂ min (ap (λ q. bit_at (get_or xs q 0) (j % 64)) (sym e) ∙ bit_is xs j h) (ap (λ q. bit_at (get_or ys q 0) (j % 64)) (sym e) ∙ bit_is ys j k)
    word (inr n) = ap (λ m. bit_at m (j % 64)) (get_or-set_other xs i (j / 64) v 0 n) ∙ bit_is xs j h

-- ---- the next place

-- a bit after others
bit_at_shifted : (n s k : ℕ) → bit_at (n / 2 ^ s) k ≡ bit_at n (s + k)
bit_at_shifted n s k = ap (λ m. m % 2) (div-div-eq-div-mul n (2 ^ s) (2 ^ k) ∙ ap (λ m. n / m) (sym (pow-add 2 s k)))

-- what is left of a place's word, from the place on
abbrev pub rest_at : List ℕ → ℕ → ℕ
rest_at xs at = get_or xs (at / 64) 0 / 2 ^ (at % 64)

-- the bit of a place of the same word
bit_behind : (xs : List ℕ) (at j : ℕ) → at ≤ j → j / 64 ≡ at / 64 → bit_of xs j ≡ bit_at (rest_at xs at) (j - at)
bit_behind xs at j l e =
    let f : at % 64 + (j - at) ≡ j % 64 = omega (arith, e, l) in
    ap (λ q. bit_at (get_or xs q 0) (j % 64)) e ∙ ap (λ k. bit_at (get_or xs (at / 64) 0) k) (sym f)
    ∙ sym (bit_at_shifted (get_or xs (at / 64) 0) (at % 64) (j - at))

pub none_in_word : (xs : List ℕ) (at j : ℕ) → rest_at xs at ≡ 0 → at ≤ j → j < at + (64 - at % 64) → has xs j ≡ false
none_in_word xs at j none l g =
    is_out xs j (bit_behind xs at j l (omega (arith, l, g)) ∙ ap (λ n. bit_at n (j - at)) none ∙ bit_at-zero (j - at))

pub none_before : (xs : List ℕ) (at j : ℕ) → get_or xs (at / 64) 0 < 2 ^ 64 → 0 < rest_at xs at → rest_at xs at < 2 ^ 64 → at ≤ j
    → j < at + trailing_zeros w64 (rest_at xs at) → has xs j ≡ false
none_before xs at j word some fits l g =
    is_out xs j (bit_behind xs at j l (omega (arith, l, g, near)) ∙ lowest.2 (j - at) (omega (arith, l, g)))
  where
    t : ℕ
    t = trailing_zeros w64 (rest_at xs at)

    lowest : (t < 64) × (bit_at (rest_at xs at) t ≡ 1) × ((i : ℕ) → i < t → bit_at (rest_at xs at) i ≡ 0)
    lowest = bit_at-trailing_zeros w64 (rest_at xs at) some fits

    near : at % 64 + t < 64
    near = go (cases_lt (at % 64 + t) 64)
      where
        go : (at % 64 + t < 64) ⊎ (64 ≤ at % 64 + t) → at % 64 + t < 64
        go (inl h) = h
        go (inr h) =
            let none : bit_at (get_or xs (at / 64) 0) (at % 64 + t) ≡ 0 = bit_at_above (get_or xs (at / 64) 0) 64 (at % 64 + t) word h in
            let one : bit_at (get_or xs (at / 64) 0) (at % 64 + t) ≡ 1 = sym (bit_at_shifted (get_or xs (at / 64) 0) (at % 64) t) ∙ lowest.1 in
            absurd (omega (arith, none, one))

-- the same, as it is found
pub found_after : (xs : List ℕ) (at word j : ℕ) → word ≡ get_or xs (at / 64) 0 → word < 2 ^ 64 → (word / 2 ^ (at % 64) ≡ 0 → ⊥) → at ≤ j
    → j < at + trailing_zeros w64 (word / 2 ^ (at % 64)) → has xs j ≡ false
found_after xs at word j e fits some l g =
    none_before xs at j (subst (λ n. n < 2 ^ 64) e fits) (subst (λ n. 0 < n / 2 ^ (at % 64)) e (omega (arith, some)))
    (subst (λ n. n / 2 ^ (at % 64) < 2 ^ 64) e (omega (arith, div-le_self word (2 ^ (at % 64)), fits))) l
    (subst (λ n. j < at + trailing_zeros w64 (n / 2 ^ (at % 64))) e g)

pub passed_word : (xs : List ℕ) (at word j : ℕ) → word ≡ get_or xs (at / 64) 0 → word / 2 ^ (at % 64) ≡ 0 → at ≤ j
    → j < at + (64 - at % 64) → has xs j ≡ false
passed_word xs at word j e none l g = none_in_word xs at j (subst (λ n. n / 2 ^ (at % 64) ≡ 0) e none) l g

-- ---- one place

pub has_bit : (xs : List ℕ) (j word : ℕ) → word ≡ get_or xs (j / 64) 0 → nat_eq (word / 2 ^ (j % 64) % 2) 1 ≡ has xs j
unfolding has
has_bit xs j word e = ap (λ n. nat_eq (bit_at n (j % 64)) 1) e

-- no place is in no words
pub none_has : (j : ℕ) → has [] j ≡ false
none_has j = is_out [] j (bit_at-zero (j % 64))
