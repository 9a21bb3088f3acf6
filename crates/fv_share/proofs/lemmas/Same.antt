-- The derived equality of signals is equality.
use Rattle.std.specs.Ordering.{int_eq}
use Rattle.std.proofs.Common.{rules, ◌≡◌, ℕ, ℤ, List, [], ◌∷◌, refl, ap, ap₂, nat_eq, ◌∙◌, arith, Bool, true, false}
use Rattle.std.proofs.lemmas.Bool.Decides.{nat_tests}
use Rattle.std.proofs.lemmas.Bool.{eqb-true, eq-eqb}
use Rattle.std.specs.Prelude.{◌&&◌}
use Rattle.std.specs.Cmp.Lexicographic.{pointwise}
use denote.Enum.Bare.{same_true, true_same}
use Rattle.fv_num.specs.declared.op.Op.{Op}
use Rattle.fv_num.specs.contracts.op.Op.{the_type}
use Rattle.fv_signal.specs.declared.signal.Signal.{Signal}
use Rattle.fv_signal.specs.declared.signal.Signal.TheVariants.{Input, Const, Control, Point, Delay, Back, Member, Read, Write}
use Rattle.fv_share.specs.Drafts.{same, same_list}

abbrev same_op : Op → Op → Bool
same_op = Rattle.fv_num.specs.contracts.op.OpPartialEq.TheImpl.eq-value.it

and_left : (a b : Bool) → a && b ≡ true → a ≡ true
and_left true b h = refl
and_left false b h = absurd cc

and_right : (a b : Bool) → a && b ≡ true → b ≡ true
and_right true b h = h
and_right false b h = absurd cc

both : (a b : Bool) → a ≡ true → b ≡ true → a && b ≡ true
both true b p q = q
both false b p q = absurd cc

lists_same : (xs ys : List ℕ) → pointwise nat_eq xs ys ≡ true → xs ≡ ys
lists_same [] [] h = refl
lists_same [] (y ∷ ys) h = absurd cc
lists_same (x ∷ xs) [] h = absurd cc
lists_same (x ∷ xs) (y ∷ ys) h = ap₂ (λ a b. a ∷ b) (eqb-true x y (and_left _ _ h)) (lists_same xs ys (and_right _ _ h))

lists_self : (xs : List ℕ) → pointwise nat_eq xs xs ≡ true
lists_self [] = refl
lists_self (x ∷ xs) = both _ _ (eq-eqb x x refl) (lists_self xs)

ops_same : (a b : Op) → same_op a b ≡ true → a ≡ b
ops_same a b h = same_true the_type (search rules) a b h

ops_self : (a : Op) → same_op a a ≡ true
ops_self a = true_same the_type a a refl

delays : {x d max y e most : ℕ} → x ≡ y → d ≡ e → max ≡ most → Delay x d max ≡ Delay y e most
delays {x} {d} {max} {y} {e} {most} p q r = ap₂ (λ a b. Delay a b max) p q ∙ ap (λ m. Delay y e m) r

writes : {t w x r u a b c : ℕ} → t ≡ u → w ≡ a → x ≡ b → r ≡ c → Write t w x r ≡ Write u a b c
writes {t} {w} {x} {r} {u} {a} {b} {c} p q m n = ap₂ (λ i j. Write i j x r) p q ∙ ap₂ (λ i j. Write u a i j) m n

-- equal lists of numbers
ints_same : (a b : ℤ) → int_eq a b ≡ true → a ≡ b
ints_same a b h = grind (arith, nat_tests)

pub lists_equal : (xs ys : List ℤ) → same_list xs ys ≡ true → xs ≡ ys
lists_equal [] [] h = refl
lists_equal [] (y ∷ ys) h = absurd cc
lists_equal (x ∷ xs) [] h = absurd cc
lists_equal (x ∷ xs) (y ∷ ys) h = ap₂ (λ a b. a ∷ b) (ints_same x y (and_left _ _ h)) (lists_equal xs ys (and_right _ _ h))

not_true : false ≡ true → ⊥
not_true h = cc

pub same_equal : (x y : Signal) → same x y ≡ true → x ≡ y
same_equal (Input a) (Input b) h = ap Input (eqb-true a b h)
same_equal (Const a) (Const b) h = grind (arith, nat_tests)
same_equal (Control a) (Control b) h = ap Control (eqb-true a b h)
same_equal (Point op args) (Point p brgs) h =
    let e : same_op op p && pointwise nat_eq args brgs ≡ true = h in
    ap₂ (λ x y. Point x y) (ops_same op p (and_left _ _ e)) (lists_same args brgs (and_right _ _ e))
same_equal (Delay x d max) (Delay y e most) h =
    let p : nat_eq x y && (nat_eq d e && nat_eq max most) ≡ true = h in
    let q = and_right (nat_eq x y) _ p in
    delays (eqb-true x y (and_left _ _ p)) (eqb-true d e (and_left _ _ q)) (eqb-true max most (and_right _ _ q))
same_equal (Back g i) (Back k j) h = grind (arith, nat_tests)
same_equal (Member g i) (Member k j) h = grind (arith, nat_tests)
same_equal (Read t r) (Read u q) h = grind (arith, nat_tests)
same_equal (Write t w x r) (Write u a b c) h =
    let p : nat_eq t u && (nat_eq w a && (nat_eq x b && nat_eq r c)) ≡ true = h in
    let q = and_right (nat_eq t u) _ p in
    let m = and_right (nat_eq w a) _ q in
    writes (eqb-true t u (and_left _ _ p)) (eqb-true w a (and_left _ _ q)) (eqb-true x b (and_left _ _ m)) (eqb-true r c (and_right _ _ m))
same_equal x y h = absurd (not_true h)

pub same_self : (x : Signal) → same x x ≡ true
same_self (Input a) = eq-eqb a a refl
same_self (Const a) = grind (arith, nat_tests)
same_self (Control a) = eq-eqb a a refl
same_self (Point op args) = both _ _ (ops_self op) (lists_self args)
same_self (Delay x d max) = both _ _ (eq-eqb x x refl) (both _ _ (eq-eqb d d refl) (eq-eqb max max refl))
same_self (Back g i) = both _ _ (eq-eqb g g refl) (eq-eqb i i refl)
same_self (Member g i) = both _ _ (eq-eqb g g refl) (eq-eqb i i refl)
same_self (Read t r) = both _ _ (eq-eqb t t refl) (eq-eqb r r refl)
same_self (Write t w x r) = both _ _ (eq-eqb t t refl) (both _ _ (eq-eqb w w refl) (both _ _ (eq-eqb x x refl) (eq-eqb r r refl)))
