-- The operand that is chosen has the operation's value.
use Rattle.std.proofs.Common.{◌≡◌, ℕ, ◌-◌, ◌^◌, ◌<◌, List, ℤ, pos, negsuc, ◌+ℤ◌, ◌-ℤ◌, ◌*ℤ◌, refl, sym, ap, ap₂, ◌∙◌, arith, Bool, true, false, if◌then◌else◌}
use Rattle.std.proofs.Common.{Some, None, w32, FitsSigned, int_div, bit_and, bit_or, bit_xor, inl, inr, ◌⊎◌}
use Rattle.std.specs.Prelude.{Option, ◌&&◌}
use Rattle.std.specs.Int.{int_wrap, int_div_euclid, cast_signed}
use Rattle.std.specs.Ordering.{int_eq}
use Rattle.std.specs.Int.Bits.{or_zero_l, or_zero_r, xor_zero_l, xor_zero_r, and_zero_r}
use Rattle.std.specs.Int.Signed.{mag}
use Rattle.std.proofs.lemmas.Int.{ints, int_wrap_fits}
use Rattle.std.proofs.lemmas.Nat.{and_mask, and_comm}
use Rattle.std.proofs.lemmas.Bool.{eqb-true}
use Rattle.std.proofs.lemmas.Bool.Decides.{Decides-int_eq}
use Rattle.std.proofs.Math.Nat.{div-one, mod-eq_of_lt}
use Rattle.fv_num.specs.declared.op.Op.{Op}
use Rattle.fv_num.specs.declared.op.Op.TheVariants.{Add, Sub, Mul, Div, Rem, And, Or, Xor, Shl, Shr, Abs, Select2, Select3}
use Rattle.fv_num.specs.headline.Words.{argument, apply_of, inputs_of, wrap, bits_of, quotient, remainder, shifted_left, shifted_right, amount}
use Rattle.fv_num.proofs.lemmas.Wrapped.{bits_are, read_wraps, turned_wraps}
use Rattle.fv_simplify.specs.Choices.{is_neutral, is_absorbing, left_by, or_else, selected2, selected3, choice, Agrees}

equal : (a b : ℤ) → int_eq a b ≡ true → a ≡ b
equal a b h = (Decides-int_eq a b).0 h

wrapped : (a b : ℤ) → FitsSigned w32 a → b ≡ a → wrap b ≡ a
wrapped a b f e = ap wrap e ∙ int_wrap_fits w32 a f

plus_zero : (a : ℤ) → a +ℤ pos 0 ≡ a
plus_zero a = omega (arith, ints)

zero_plus : (a : ℤ) → pos 0 +ℤ a ≡ a
zero_plus a = omega (arith, ints)

minus_zero : (a : ℤ) → a -ℤ pos 0 ≡ a
minus_zero a = omega (arith, ints)

times_one : (a : ℤ) → a *ℤ pos 1 ≡ a
times_one a = omega (arith, ints)

one_times : (a : ℤ) → pos 1 *ℤ a ≡ a
one_times a = omega (arith, ints)

times_zero : (a : ℤ) → a *ℤ pos 0 ≡ pos 0
times_zero a = omega (arith, ints)

zero_times : (a : ℤ) → pos 0 *ℤ a ≡ pos 0
zero_times a = omega (arith, ints)

by_one : (a : ℤ) → int_div a (pos 1) ≡ a
by_one (pos n) = ap pos (div-one n)
by_one (negsuc n) = omega (arith, ints)

euclid_one : (a : ℤ) → int_div_euclid a (pos 1) ≡ a
euclid_one (pos n) = ap pos (div-one n)
euclid_one (negsuc n) = omega (arith, ints)

-- the bits of a number of 32 bits, read again
bits_small : (a : ℤ) → bits_of a < 2 ^ 32
bits_small (pos n) = omega arith
bits_small (negsuc n) = omega arith

bits_wrap : (a : ℤ) → FitsSigned w32 a → wrap (pos (bits_of a)) ≡ a
bits_wrap a f =
    let m : mag a < 2 ^ 32 = omega (arith, f.sfits) in
    sym (read_wraps (bits_of a) (bits_small a)) ∙ sym (ap (cast_signed w32) (bits_are a m)) ∙ turned_wraps a m ∙ int_wrap_fits w32 a f

and_all : (n : ℕ) → n < 2 ^ 32 → bit_and n (2 ^ 32 - 1) ≡ n
and_all n h = and_mask n 32 ∙ mod-eq_of_lt h

all_and : (n : ℕ) → n < 2 ^ 32 → bit_and (2 ^ 32 - 1) n ≡ n
all_and n h = and_comm (2 ^ 32 - 1) n ∙ and_all n h

and_none : (n : ℕ) → bit_and n 0 ≡ 0
and_none n = and_zero_r n

xor_none : (n : ℕ) → bit_xor n 0 ≡ n
xor_none n = xor_zero_r n

none_xor : (n : ℕ) → bit_xor 0 n ≡ n
none_xor n = xor_zero_l n

both_true : (a b : Bool) → a && b ≡ true → (a ≡ true) × (b ≡ true)
both_true true b h = (refl, h)
both_true false b h = absurd cc

shl_none : (a b : ℤ) → FitsSigned w32 a → amount b ≡ 0 → shifted_left a b ≡ a
shl_none a b f e = ap (λ k. wrap (a *ℤ pos (2 ^ k))) e ∙ wrapped a (a *ℤ pos 1) f (times_one a)

shr_none : (a b : ℤ) → amount b ≡ 0 → shifted_right a b ≡ a
shr_none a b e = ap (λ k. int_div_euclid a (pos (2 ^ k))) e ∙ euclid_one a

-- a neutral number on the right leaves the left operand
right_neutral : (op : Op) (a b : ℤ) (x : List ℤ) → argument x 0 ≡ a → argument x 1 ≡ b → FitsSigned w32 a → is_neutral op 1 b ≡ true → apply_of op x ≡ a
right_neutral Add a b x p q f h = ap₂ (λ u v. wrap (u +ℤ v)) p (q ∙ equal b (pos 0) h) ∙ wrapped a (a +ℤ pos 0) f (plus_zero a)
right_neutral Sub a b x p q f h = ap₂ (λ u v. wrap (u -ℤ v)) p (q ∙ equal b (pos 0) h) ∙ wrapped a (a -ℤ pos 0) f (minus_zero a)
right_neutral Mul a b x p q f h = ap₂ (λ u v. wrap (u *ℤ v)) p (q ∙ equal b (pos 1) h) ∙ wrapped a (a *ℤ pos 1) f (times_one a)
right_neutral Div a b x p q f h = ap₂ quotient p (q ∙ equal b (pos 1) h) ∙ wrapped a (int_div a (pos 1)) f (by_one a)
right_neutral And a b x p q f h =
    ap₂ (λ u v. wrap (pos (bit_and (bits_of u) (bits_of v)))) p (q ∙ equal b (negsuc 0) h) ∙ ap (λ n. wrap (pos n)) (and_all (bits_of a) (bits_small a))
    ∙ bits_wrap a f
right_neutral Or a b x p q f h = ap₂ (λ u v. wrap (pos (bit_or (bits_of u) (bits_of v)))) p (q ∙ equal b (pos 0) h)
    ∙ ap (λ n. wrap (pos n)) (or_zero_r (bits_of a)) ∙ bits_wrap a f
right_neutral Xor a b x p q f h = ap₂ (λ u v. wrap (pos (bit_xor (bits_of u) (bits_of v)))) p (q ∙ equal b (pos 0) h)
    ∙ ap (λ n. wrap (pos n)) (xor_none (bits_of a)) ∙ bits_wrap a f
right_neutral Shl a b x p q f h = ap₂ shifted_left p q ∙ shl_none a b f (eqb-true (amount b) 0 h)
right_neutral Shr a b x p q f h = ap₂ shifted_right p q ∙ shr_none a b (eqb-true (amount b) 0 h)
right_neutral op a b x p q f h = absurd cc

-- on the left, the right one
left_neutral : (op : Op) (a b : ℤ) (x : List ℤ) → argument x 0 ≡ a → argument x 1 ≡ b → FitsSigned w32 b → is_neutral op 0 a ≡ true → apply_of op x ≡ b
left_neutral Add a b x p q f h = ap₂ (λ u v. wrap (u +ℤ v)) (p ∙ equal a (pos 0) h) q ∙ wrapped b (pos 0 +ℤ b) f (zero_plus b)
left_neutral Mul a b x p q f h = ap₂ (λ u v. wrap (u *ℤ v)) (p ∙ equal a (pos 1) h) q ∙ wrapped b (pos 1 *ℤ b) f (one_times b)
left_neutral And a b x p q f h =
    ap₂ (λ u v. wrap (pos (bit_and (bits_of u) (bits_of v)))) (p ∙ equal a (negsuc 0) h) q ∙ ap (λ n. wrap (pos n)) (all_and (bits_of b) (bits_small b))
    ∙ bits_wrap b f
left_neutral Or a b x p q f h = ap₂ (λ u v. wrap (pos (bit_or (bits_of u) (bits_of v)))) (p ∙ equal a (pos 0) h) q
    ∙ ap (λ n. wrap (pos n)) (or_zero_l (bits_of b)) ∙ bits_wrap b f
left_neutral Xor a b x p q f h = ap₂ (λ u v. wrap (pos (bit_xor (bits_of u) (bits_of v)))) (p ∙ equal a (pos 0) h) q
    ∙ ap (λ n. wrap (pos n)) (none_xor (bits_of b)) ∙ bits_wrap b f
left_neutral op a b x p q f h = absurd cc

-- 0 makes the value 0
right_absorbing : (op : Op) (a b : ℤ) (x : List ℤ) → argument x 0 ≡ a → argument x 1 ≡ b → is_absorbing op 1 b ≡ true → apply_of op x ≡ b
unfolding int_wrap
right_absorbing Mul a b x p q h = let z = equal b (pos 0) h in ap₂ (λ u v. wrap (u *ℤ v)) p (q ∙ z) ∙ ap wrap (times_zero a) ∙ sym z
right_absorbing And a b x p q h =
    let z = equal b (pos 0) h in ap₂ (λ u v. wrap (pos (bit_and (bits_of u) (bits_of v)))) p (q ∙ z) ∙ ap (λ n. wrap (pos n)) (and_none (bits_of a)) ∙ sym z
right_absorbing Div a b x p q h = let z = equal b (pos 0) h in ap₂ quotient p (q ∙ z) ∙ sym z
right_absorbing Rem a b x p q h = let z = equal b (pos 0) h in ap₂ remainder p (q ∙ z) ∙ sym z
right_absorbing op a b x p q h = absurd cc

left_absorbing : (op : Op) (a b : ℤ) (x : List ℤ) → argument x 0 ≡ a → argument x 1 ≡ b → is_absorbing op 0 a ≡ true → apply_of op x ≡ a
unfolding int_wrap
left_absorbing Mul a b x p q h = let z = equal a (pos 0) h in ap₂ (λ u v. wrap (u *ℤ v)) (p ∙ z) q ∙ ap wrap (zero_times b) ∙ sym z
left_absorbing And a b x p q h =
    let z = equal a (pos 0) h in
    ap₂ (λ u v. wrap (pos (bit_and (bits_of u) (bits_of v)))) (p ∙ z) q ∙ ap (λ n. wrap (pos n)) (and_comm 0 (bits_of b) ∙ and_none (bits_of b)) ∙ sym z
left_absorbing op a b x p q h = absurd cc

-- ---- the choice

-- what is left by a number at a place
data Left (op : Op) (place other i : ℕ) (n : ℤ) : Type 0 where
  Neutral : is_neutral op place n ≡ true → other ≡ i → Left op place other i n
  Absorbing : is_absorbing op place n ≡ true → place ≡ i → Left op place other i n

left_cases : (op : Op) (place other i : ℕ) (n : ℤ) → left_by op place other (Some n) ≡ Some i → Left op place other i n
left_cases op place other i n h = go (is_neutral op place n) (is_absorbing op place n) refl refl h
  where
    go : (a b : Bool) → is_neutral op place n ≡ a → is_absorbing op place n ≡ b → (if a then Some other else if b then Some place else None) ≡ Some i
        → Left op place other i n
    go true b p q e = Neutral p (let z : other ≡ i = cc in z)
    go false true p q e = Absorbing q (let z : place ≡ i = cc in z)
    go false false p q e = absurd cc

or_cases : (a b : Option ℕ) (i : ℕ) → or_else a b ≡ Some i → (a ≡ Some i) ⊎ (b ≡ Some i)
or_cases (Some j) b i h = inl h
or_cases None b i h = inr h

-- on the right of two numbers, or on the left
by_right : (op : Op) (i : ℕ) (n : ℤ) (x : List ℤ) → Left op 1 0 i n → argument x 1 ≡ n → ((j : ℕ) → FitsSigned w32 (argument x j))
    → apply_of op x ≡ argument x i
by_right op i n x (Neutral h e) q f = right_neutral op (argument x 0) n x refl q (f 0) h ∙ ap (argument x) e
by_right op i n x (Absorbing h e) q f = right_absorbing op (argument x 0) n x refl q h ∙ sym q ∙ ap (argument x) e

by_left : (op : Op) (i : ℕ) (n : ℤ) (x : List ℤ) → Left op 0 1 i n → argument x 0 ≡ n → ((j : ℕ) → FitsSigned w32 (argument x j)) → apply_of op x ≡ argument x i
by_left op i n x (Neutral h e) q f = left_neutral op n (argument x 1) x q refl (f 1) h ∙ ap (argument x) e
by_left op i n x (Absorbing h e) q f = left_absorbing op n (argument x 1) x q refl h ∙ sym q ∙ ap (argument x) e

left_is : (op : Op) (known : Option ℤ) (place other i : ℕ) → left_by op place other known ≡ Some i → (n : ℤ) × (known ≡ Some n) × Left op place other i n
left_is op None place other i h = absurd cc
left_is op (Some n) place other i h = (n, refl, left_cases op place other i n h)

-- where both places are known to the operation
by_either : (op : Op) (known : ℕ → Option ℤ) (x : List ℤ) (i : ℕ) → Agrees known x → ((j : ℕ) → FitsSigned w32 (argument x j)) →
    or_else (left_by op 1 0 (known 1)) (left_by op 0 1 (known 0)) ≡ Some i → apply_of op x ≡ argument x i
by_either op known x i a f h = elim (or_cases (left_by op 1 0 (known 1)) (left_by op 0 1 (known 0)) i h) [
  | inl p ↦ let r = left_is op (known 1) 1 0 i p in by_right op i r.0 x r.2 (a 1 r.0 r.1) f
  | inr p ↦ let r = left_is op (known 0) 0 1 i p in by_left op i r.0 x r.2 (a 0 r.0 r.1) f
]

-- selectors
known_is : (known : Option ℤ) → (f : ℤ → Option ℕ) → (g : Option ℤ → Option ℕ) → (i : ℕ) → g None ≡ None → ((n : ℤ) → g (Some n) ≡ f n) → g known ≡ Some i →
    (n : ℤ) × (known ≡ Some n) × (f n ≡ Some i)
known_is None f g i none some h = let e = sym none ∙ h in absurd cc
known_is (Some n) f g i none some h = (n, refl, sym (some n) ∙ h)

chosen2 : (n : ℤ) (i : ℕ) (x : List ℤ) (b : Bool) → int_eq n (pos 0) ≡ b → (if b then Some 1 else Some 2) ≡ Some i → argument x 0 ≡ n
    → apply_of Select2 x ≡ argument x i
chosen2 n i x true q p e = let z : 1 ≡ i = cc in ap (λ m. if int_eq m (pos 0) then argument x 1 else argument x 2) e
    ∙ ap (λ b. if b then argument x 1 else argument x 2) q ∙ ap (argument x) z
chosen2 n i x false q p e = let z : 2 ≡ i = cc in ap (λ m. if int_eq m (pos 0) then argument x 1 else argument x 2) e
    ∙ ap (λ b. if b then argument x 1 else argument x 2) q ∙ ap (argument x) z

chosen3 : (n : ℤ) (i : ℕ) (x : List ℤ) (b d : Bool) → int_eq n (pos 0) ≡ b → int_eq n (pos 1) ≡ d
    → (if b then Some 1 else if d then Some 2 else Some 3) ≡ Some i → argument x 0 ≡ n →
    apply_of Select3 x ≡ argument x i
chosen3 n i x true d q r p e =
    let z : 1 ≡ i = cc in
    ap (λ m. if int_eq m (pos 0) then argument x 1 else if int_eq m (pos 1) then argument x 2 else argument x 3) e
    ∙ ap (λ b. if b then argument x 1 else if int_eq n (pos 1) then argument x 2 else argument x 3) q ∙ ap (argument x) z
chosen3 n i x false true q r p e =
    let z : 2 ≡ i = cc in
    ap (λ m. if int_eq m (pos 0) then argument x 1 else if int_eq m (pos 1) then argument x 2 else argument x 3) e
    ∙ ap (λ b. if b then argument x 1 else if int_eq n (pos 1) then argument x 2 else argument x 3) q ∙ ap (λ d. if d then argument x 2 else argument x 3) r
    ∙ ap (argument x) z
chosen3 n i x false false q r p e =
    let z : 3 ≡ i = cc in
    ap (λ m. if int_eq m (pos 0) then argument x 1 else if int_eq m (pos 1) then argument x 2 else argument x 3) e
    ∙ ap (λ b. if b then argument x 1 else if int_eq n (pos 1) then argument x 2 else argument x 3) q ∙ ap (λ d. if d then argument x 2 else argument x 3) r
    ∙ ap (argument x) z

pub choice_is : (op : Op) (known : ℕ → Option ℤ) (x : List ℤ) (i : ℕ) → Agrees known x → ((j : ℕ) → FitsSigned w32 (argument x j)) → choice op known ≡ Some i
    → apply_of op x ≡ argument x i
choice_is Select2 known x i a f h =
    let r = known_is (known 0) (λ n. if int_eq n (pos 0) then Some 1 else Some 2) selected2 i refl (λ n. refl) h in
    chosen2 r.0 i x (int_eq r.0 (pos 0)) refl r.2 (a 0 r.0 r.1)
choice_is Select3 known x i a f h =
    let r = known_is (known 0) (λ n. if int_eq n (pos 0) then Some 1 else if int_eq n (pos 1) then Some 2 else Some 3) selected3 i refl (λ n. refl) h in
    chosen3 r.0 i x (int_eq r.0 (pos 0)) (int_eq r.0 (pos 1)) refl refl r.2 (a 0 r.0 r.1)
choice_is op known x i a f h = by_either op known x i a f h

-- ---- where the choice lies

left_place : (op : Op) (place other i : ℕ) (n : ℤ) → Left op place other i n → (i ≡ other) ⊎ (i ≡ place)
left_place op place other i n (Neutral h e) = inl (sym e)
left_place op place other i n (Absorbing h e) = inr (sym e)

either_within : (op : Op) (known : ℕ → Option ℤ) (i : ℕ) → or_else (left_by op 1 0 (known 1)) (left_by op 0 1 (known 0)) ≡ Some i → i < 2
either_within op known i h = elim (or_cases (left_by op 1 0 (known 1)) (left_by op 0 1 (known 0)) i h) [
  | inl p ↦ let r = left_is op (known 1) 1 0 i p in elim (left_place op 1 0 i r.0 r.2) [ inl e ↦ omega (arith, e) | inr e ↦ omega (arith, e) ]
  | inr p ↦ let r = left_is op (known 0) 0 1 i p in elim (left_place op 0 1 i r.0 r.2) [ inl e ↦ omega (arith, e) | inr e ↦ omega (arith, e) ]
]

never_abs : (place other i : ℕ) (n : ℤ) → Left Abs place other i n → ⊥
never_abs place other i n (Neutral h e) = absurd cc
never_abs place other i n (Absorbing h e) = absurd cc

pub choice_within : (op : Op) (known : ℕ → Option ℤ) (i : ℕ) → choice op known ≡ Some i → i < inputs_of op
choice_within Select2 known i h =
    let r = known_is (known 0) (λ n. if int_eq n (pos 0) then Some 1 else Some 2) selected2 i refl (λ n. refl) h in go (int_eq r.0 (pos 0)) r.2
  where
    go : (b : Bool) → (if b then Some 1 else Some 2) ≡ Some i → i < 3
    go true e = let z : 1 ≡ i = cc in omega (arith, z)
    go false e = let z : 2 ≡ i = cc in omega (arith, z)
choice_within Select3 known i h =
    let r = known_is (known 0) (λ n. if int_eq n (pos 0) then Some 1 else if int_eq n (pos 1) then Some 2 else Some 3) selected3 i refl (λ n. refl) h in
    go (int_eq r.0 (pos 0)) (int_eq r.0 (pos 1)) r.2
  where
    go : (b d : Bool) → (if b then Some 1 else if d then Some 2 else Some 3) ≡ Some i → i < 4
    go true d e = let z : 1 ≡ i = cc in omega (arith, z)
    go false true e = let z : 2 ≡ i = cc in omega (arith, z)
    go false false e = let z : 3 ≡ i = cc in omega (arith, z)
choice_within Abs known i h = elim (or_cases (left_by Abs 1 0 (known 1)) (left_by Abs 0 1 (known 0)) i h) [
  | inl p ↦ let r = left_is Abs (known 1) 1 0 i p in absurd (never_abs 1 0 i r.0 r.2)
  | inr p ↦ let r = left_is Abs (known 0) 0 1 i p in absurd (never_abs 0 1 i r.0 r.2)
]
choice_within op known i h = either_within op known i h
