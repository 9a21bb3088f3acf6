-- A line is read as just the request that it spells.
use Rattle.std.proofs.Common.{◌≡◌, ℕ, suc, ◌+◌, ◌<◌, ◌≤◌, Bool, true, false, not, ◌&&◌, ◌==◌, List, [], ◌∷◌, ◌++◌, length, drop, take, get_or}
use Rattle.std.proofs.Common.{refl, sym, ap, ap₂, ◌∙◌, arith, Some, None, Option, add-one, append_assoc, subst, ℤ, inl, inr}
use Rattle.std.specs.Prelude.{if◌then◌else◌, nat_le}
use Rattle.std.specs.List.{position_or_len, list_all, before_first, after_first}
use Rattle.std.proofs.lemmas.List.Sums.{split_at_first, passes_at_first}
use Rattle.std.proofs.Common.{length-take}
use Rattle.std.proofs.Math.ListN.{drop_of_length-le}
use Rattle.std.proofs.lemmas.Bool.{cases_lt}
use Rattle.std.proofs.lemmas.List.{take_at, drop_at, length_push, length-append, take_all}
use Rattle.fv_control.specs.headline.Script.{last_space, one_more, is_space, is_digit, is_decimal, decimal_after, natural_to, frame_of}
use Rattle.fv_control.specs.headline.Script.{value_of, signed, Request, requested, request_at, request_of}
use Rattle.fv_control.specs.Laws.{Spells}

-- ---- bytes that are no spaces

abbrev Bare : List ℕ → Type 0
Bare bytes = list_all (λ b. not (is_space b)) bytes ≡ true

both_true : (b c : Bool) → (b && c) ≡ true → (b ≡ true) × (c ≡ true)
both_true true c e = (refl, e)
both_true false c e = absurd cc

bare_first : (b : ℕ) (bs : List ℕ) → Bare (b ∷ bs) → (is_space b ≡ false) × Bare bs
bare_first b bs e = let both = both_true (not (is_space b)) (list_all (λ b. not (is_space b)) bs) e in (go (is_space b) both.0, both.1)
  where
    go : (s : Bool) → not s ≡ true → s ≡ false
    go true e = absurd cc
    go false e = refl

digit_bare : (d : ℕ) → is_digit d ≡ true → not (is_space d) ≡ true
digit_bare d e = grind arith

digits_bare : (ds : List ℕ) → list_all is_digit ds ≡ true → Bare ds
digits_bare [] e = refl
digits_bare (d ∷ ds) e = let both = both_true (is_digit d) (list_all is_digit ds) e in rw (digit_bare d both.0) (digits_bare ds both.1)

-- ---- the first space and the last one

first_is : (xs ys : List ℕ) → Bare xs → position_or_len is_space (xs ++ 32 ∷ ys) ≡ length xs
first_is [] ys h = refl
first_is (x ∷ xs) ys h = let both = bare_first x xs h in rw both.0 (omega (arith, first_is xs ys both.1))

no_last : (ys : List ℕ) → Bare ys → last_space ys ≡ None
no_last [] h = refl
no_last (y ∷ ys) h = let both = bare_first y ys h in rw (both.0, no_last ys both.1) refl

last_is : (xs ys : List ℕ) → Bare ys → last_space (xs ++ 32 ∷ ys) ≡ Some (length xs)
last_is [] ys h = rw (no_last ys h) refl
last_is (x ∷ xs) ys h = rw (last_is xs ys h) (ap Some (add-one (length xs)))

space_is : (b : ℕ) → is_space b ≡ true → b ≡ 32
space_is b e = grind arith

last_splits : (rest : List ℕ) (i : ℕ) → last_space rest ≡ Some i → rest ≡ take i rest ++ 32 ∷ drop (i + 1) rest
last_splits [] i e = absurd cc
last_splits (b ∷ bs) i e = go (last_space bs) refl (last_splits bs) e
  where
    further : (j : ℕ) → b ∷ take j bs ++ 32 ∷ drop (j + 1) bs ≡ take (suc j) (b ∷ bs) ++ 32 ∷ drop (suc j + 1) (b ∷ bs)
    further j = let e : suc j + 1 ≡ suc (j + 1) = omega arith in ap (λ (n : ℕ). b ∷ take j bs ++ 32 ∷ drop n (b ∷ bs)) (sym e)

    here : (s : Bool) → is_space b ≡ s → (if s then Some 0 else None) ≡ Some i → b ∷ bs ≡ take i (b ∷ bs) ++ 32 ∷ drop (i + 1) (b ∷ bs)
    here true e p = let z : 0 ≡ i = cc in subst (λ n. b ∷ bs ≡ take n (b ∷ bs) ++ 32 ∷ drop (n + 1) (b ∷ bs)) z (ap (λ x. x ∷ bs) (space_is b e))
    here false e p = absurd cc

    go : (o : Option ℕ) → last_space bs ≡ o → ((j : ℕ) → last_space bs ≡ Some j → bs ≡ take j bs ++ 32 ∷ drop (j + 1) bs)
        → one_more o (if is_space b then Some 0 else None) ≡ Some i → b ∷ bs ≡ take i (b ∷ bs) ++ 32 ∷ drop (i + 1) (b ∷ bs)
    go None q rec p = here (is_space b) refl p
    go (Some j) q rec p =
        let n : suc j ≡ i = omega (arith, ap (λ o. elim o as (λ _. ℕ) [ None ↦ 0 | Some k ↦ k ]) p) in
        subst (λ n. b ∷ bs ≡ take n (b ∷ bs) ++ 32 ∷ drop (n + 1) (b ∷ bs)) n (ap (λ l. b ∷ l) (rec j q) ∙ further j)

-- ---- what digits and values are made of

decimal_bare : (most : ℕ) (ds : List ℕ) (n : ℕ) → natural_to most ds ≡ Some n → Bare ds
decimal_bare most ds n e = go (is_decimal ds) (nat_le (decimal_after 0 ds) most) refl e
  where
    go : (a b : Bool) → is_decimal ds ≡ a → (if a && b then Some (decimal_after 0 ds) else None) ≡ Some n → Bare ds
    go true b p q = digits_bare ds (both_true (nat_le 1 (length ds) && nat_le (length ds) 10) (list_all is_digit ds) p).1
    go false b p q = absurd cc

value_bare : (bytes : List ℕ) (v : ℤ) → value_of bytes ≡ Some v → Bare bytes
value_bare [] v e = refl
value_bare (b ∷ bs) v e = go (b == 45) refl e
  where
    written : (minus : Bool) (most : ℕ) (ds : List ℕ) (o : Option ℕ) → natural_to most ds ≡ o → signed minus o ≡ Some v → Bare ds
    written minus most ds None p q = absurd cc
    written minus most ds (Some n) p q = decimal_bare most ds n p

    minus_bare : (b == 45) ≡ true → not (is_space b) ≡ true
    minus_bare e = grind arith

    go : (m : Bool) → (b == 45) ≡ m → (if m then signed true (natural_to 2147483648 bs) else signed false (natural_to 2147483647 (b ∷ bs))) ≡ Some v
        → Bare (b ∷ bs)
    go true p q = rw (minus_bare p) (written true 2147483648 bs _ refl q)
    go false p q = written false 2147483647 (b ∷ bs) _ refl q

-- ---- both ways

pub spelled_is_read : (line : List ℕ) (r : Request) → Spells line r → request_of line ≡ Some r
spelled_is_read line r s =
    let rest = r.label ++ 32 ∷ s.value in
    let fb = decimal_bare 4294967295 s.frame r.frame s.framed in
    let first : position_or_len is_space (s.frame ++ 32 ∷ rest) ≡ length s.frame = first_is s.frame rest fb in
    let front : before_first is_space (s.frame ++ 32 ∷ rest) ≡ s.frame = ap (λ n. take n (s.frame ++ 32 ∷ rest)) first
    ∙ take_at s.frame (32 ∷ rest) (length s.frame) refl in
    let back : after_first is_space (s.frame ++ 32 ∷ rest) ≡ rest = ap (λ (n : ℕ). drop (n + 1) (s.frame ++ 32 ∷ rest)) first ∙ behind s.frame rest in
    let last : last_space rest ≡ Some (length r.label) = last_is r.label s.value (value_bare s.value r.value s.valued) in
    ap request_of s.is ∙ ap₂ (λ f b. request_at f b (last_space b)) front back ∙ ap (request_at s.frame rest) last ∙ labelled (length r.label == 0) refl
  where
    behind : (xs ys : List ℕ) → drop (length xs + 1) (xs ++ 32 ∷ ys) ≡ ys
    behind xs ys = ap (drop (length xs + 1)) (sym (append_assoc xs (32 ∷ []) ys))
        ∙ drop_at (xs ++ 32 ∷ []) ys (length xs + 1) (omega (arith, length_push xs 32))

    labelled : (z : Bool) → (length r.label == 0) ≡ z
        → (if z then None else requested (frame_of s.frame) (take (length r.label) (r.label ++ 32 ∷ s.value))
        (value_of (drop (length r.label + 1) (r.label ++ 32 ∷ s.value)))) ≡ Some r
    labelled true e = absurd (empty e s.named)
      where
        empty : (length r.label == 0) ≡ true → 1 ≤ length r.label → ⊥
        empty e l = grind arith
    labelled false e =
        rw (s.framed, take_at r.label (32 ∷ s.value) (length r.label) refl, behind r.label s.value, s.valued) refl

-- a list with a last space after its first one
cut_at_first : (line : List ℕ) (i : ℕ) → last_space (after_first is_space line) ≡ Some i → line ≡ before_first is_space line ++ 32 ∷ after_first is_space line
cut_at_first line i e = elim (cases_lt (position_or_len is_space line) (length line)) [ inl l ↦ inside l | inr g ↦ absurd (outside g) ]
  where
    inside : position_or_len is_space line < length line → line ≡ before_first is_space line ++ 32 ∷ after_first is_space line
    inside l =
        let space = space_is (get_or line (position_or_len is_space line) 0) (passes_at_first is_space line 0 l) in
        split_at_first is_space line 0 l ∙ ap (λ x. before_first is_space line ++ x ∷ after_first is_space line) space

    outside : length line ≤ position_or_len is_space line → ⊥
    outside g =
        let none : after_first is_space line ≡ [] = drop_of_length-le line {i = position_or_len is_space line + 1} (omega arith) in
        let no : None ≡ Some i = ap last_space (sym none) ∙ e in absurd cc

last_within : (rest : List ℕ) (i : ℕ) → last_space rest ≡ Some i → i < length rest
last_within rest i e =
    elim (cases_lt i (length rest)) [ inl l ↦ l | inr g ↦ absurd (outside g) ]
  where
    outside : length rest ≤ i → ⊥
    outside g =
        let cut = ap length (last_splits rest i e) in
        omega (arith, cut, length-append (take i rest) (32 ∷ drop (i + 1) rest), ap length (take_all i rest (omega arith)))

long : (rest : List ℕ) (i : ℕ) → last_space rest ≡ Some i → (i == 0) ≡ false → 1 ≤ length (take i rest)
long rest i q z = let l = last_within rest i q in let n : length (take i rest) ≡ i = omega (arith, length-take i rest) in some i z n
  where
    some : (i : ℕ) → (i == 0) ≡ false → length (take i rest) ≡ i → 1 ≤ length (take i rest)
    some i z n = grind arith

pub read_is_spelled : (line : List ℕ) (r : Request) → request_of line ≡ Some r → Spells line r
read_is_spelled line r e = go (last_space rest) refl e
  where
    rest : List ℕ
    rest = after_first is_space line

    front : List ℕ
    front = before_first is_space line

    spelled : (i : ℕ) → last_space rest ≡ Some i → (i == 0) ≡ false → (o : Option ℕ) (v : Option ℤ) → frame_of front ≡ o → value_of (drop (i + 1) rest) ≡ v
        → requested o (take i rest) v ≡ Some r → Spells line r
    spelled i q z (Some n) (Some v) a b p =
        let same : record { frame = n; label = take i rest; value = v } ≡ r = cc in
        subst (Spells line) same (record {
          frame = front;
          value = drop (i + 1) rest;
          is = cut_at_first line i q ∙ ap (λ l. front ++ 32 ∷ l) (last_splits rest i q);
          framed = a;
          named = long rest i q z;
          valued = b;
        })
    spelled i q z None v a b p = absurd cc
    spelled i q z (Some n) None a b p = absurd cc

    go : (o : Option ℕ) → last_space rest ≡ o → request_at front rest o ≡ Some r → Spells line r
    go None q p = absurd cc
    go (Some i) q p = at (i == 0) refl p
      where
        at : (z : Bool) → (i == 0) ≡ z → (if z then None else requested (frame_of front) (take i rest) (value_of (drop (i + 1) rest))) ≡ Some r → Spells line r
        at true z p = absurd cc
        at false z p = spelled i q z _ _ refl refl p
