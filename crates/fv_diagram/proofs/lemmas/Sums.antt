-- The terms of each sum of a merge.
use Rattle.std.proofs.Common.{◌≡◌, ℕ, suc, ◌+◌, ◌%◌, ◌<◌, ◌≤◌, ◌≢◌, List, [], ◌∷◌, ◌++◌, length, get_or, take, drop, refl, sym, ap, ◌∙◌, arith}
use Rattle.std.proofs.Common.{append-nil, true, false, if◌then◌else◌, nat_eq, inl, inr}
use Rattle.std.proofs.lemmas.List.{get_or_append_left, get_or_push, length-take-le, get_or-take, take-append-drop}
use Rattle.std.proofs.lemmas.Bool.{cases_lt, eq-eqb, ne_eqb, cond-true, cond-false}
use Rattle.std.proofs.Math.Nat.{mod-eq_of_lt}
use Rattle.fv_base.proofs.lemmas.Lists.{snoc_induction, length_snoc}
use Rattle.fv_diagram.specs.headline.Streams.{every}

every_snoc : {A : Type 0} (n j i : ℕ) (xs : List A) (x : A) →
    every n j i (xs ++ x ∷ []) ≡ every n j i xs ++ (if nat_eq ((i + length xs) % n) j then x ∷ [] else [])
every_snoc {A} n j i [] x = let e : i ≡ i + 0 = omega arith in let f : ℕ → List A = λ k. if nat_eq (k % n) j then x ∷ [] else [] in ap f e
every_snoc {A} n j i (y ∷ ys) x =
    let e : suc i + length ys ≡ i + suc (length ys) = omega arith in
    let f : ℕ → List A = λ k. if nat_eq (k % n) j then x ∷ [] else [] in
    let h : every n j (suc i) (ys ++ x ∷ []) ≡ every n j (suc i) ys ++ f (i + suc (length ys)) = every_snoc n j (suc i) ys x
    ∙ ap (λ k. every n j (suc i) ys ++ f k) e in
    elim (nat_eq (i % n) j) as (λ b. (if b then y ∷ every n j (suc i) (ys ++ x ∷ []) else every n j (suc i) (ys ++ x ∷ [])) ≡
    (if b then y ∷ every n j (suc i) ys else every n j (suc i) ys) ++ f (i + suc (length ys))) [
      | true ↦ ap (λ zs. y ∷ zs) h
      | false ↦ h
    ]

-- the item at the next place is a term of the sum whose number it is modulo n, and of no other
every_hit : {A : Type 0} (n j : ℕ) (xs : List A) (x : A) → length xs % n ≡ j → every n j 0 (xs ++ x ∷ []) ≡ every n j 0 xs ++ x ∷ []
every_hit {A} n j xs x e =
    let z : (0 + length xs) % n ≡ j = (let p : 0 + length xs ≡ length xs = omega arith in ap (λ k. k % n) p ∙ e) in
    every_snoc n j 0 xs x ∙ ap (λ zs. every n j 0 xs ++ zs) (cond-true (nat_eq ((0 + length xs) % n) j) (x ∷ []) [] (eq-eqb ((0 + length xs) % n) j z))

every_miss : {A : Type 0} (n j : ℕ) (xs : List A) (x : A) → length xs % n ≢ j → every n j 0 (xs ++ x ∷ []) ≡ every n j 0 xs
every_miss {A} n j xs x e =
    let z : (0 + length xs) % n ≢ j = (let p : 0 + length xs ≡ length xs = omega arith in λ q. e (ap (λ k. k % n) (sym p) ∙ q)) in
    every_snoc n j 0 xs x ∙ ap (λ zs. every n j 0 xs ++ zs) (cond-false (nat_eq ((0 + length xs) % n) j) (x ∷ []) [] (ne_eqb ((0 + length xs) % n) j z))
    ∙ append-nil (every n j 0 xs)

-- of at most n items each is the one term of its sum
every_few : {A : Type 0} (n j : ℕ) (d : A) (xs : List A) → length xs ≤ n →
    (j < length xs → every n j 0 xs ≡ get_or xs j d ∷ []) × (length xs ≤ j → every n j 0 xs ≡ [])
every_few {A} n j d xs = snoc_induction {A = A} (λ xs. length xs ≤ n → (j < length xs → every n j 0 xs ≡ get_or xs j d ∷ []) ×
    (length xs ≤ j → every n j 0 xs ≡ []))
    (λ l. (λ k. absurd (omega arith), λ k. refl))
    (λ xs x h l.
    let m : length xs < n = omega (arith, length_snoc xs x) in
    let e : length xs % n ≡ length xs = mod-eq_of_lt m in
    let g = h (omega arith) in (
      λ k. elim (cases_lt j (length xs)) [
        | inl p ↦ every_miss n j xs x (λ q. absurd (omega arith)) ∙ g.0 p ∙ ap (λ z. z ∷ []) (sym (get_or_append_left xs (x ∷ []) d j p))
        | inr p ↦
            let same : length xs ≡ j = omega (arith, length_snoc xs x) in
            every_hit n j xs x (e ∙ same) ∙ ap (λ zs. zs ++ x ∷ []) (g.1 p) ∙ ap (λ z. z ∷ []) (sym (get_or_push xs x d j same))
      ],
      λ k. every_miss n j xs x (λ q. absurd (omega (arith, length_snoc xs x))) ∙ g.1 (omega (arith, length_snoc xs x)),
    ))
    xs

every_append : {A : Type 0} (n j i : ℕ) (xs ys : List A) → every n j i (xs ++ ys) ≡ every n j i xs ++ every n j (i + length xs) ys
every_append {A} n j i [] ys = let e : i ≡ i + 0 = omega arith in ap (λ k. every n j k ys) e
every_append {A} n j i (x ∷ xs) ys =
    let e : suc i + length xs ≡ i + suc (length xs) = omega arith in
    let h : every n j (suc i) (xs ++ ys) ≡ every n j (suc i) xs ++ every n j (i + suc (length xs)) ys =
    every_append n j (suc i) xs ys ∙ ap (λ k. every n j (suc i) xs ++ every n j k ys) e in
    elim (nat_eq (i % n) j) as (λ b. (if b then x ∷ every n j (suc i) (xs ++ ys) else every n j (suc i) (xs ++ ys)) ≡
    (if b then x ∷ every n j (suc i) xs else every n j (suc i) xs) ++ every n j (i + suc (length xs)) ys) [
      | true ↦ ap (λ zs. x ∷ zs) h
      | false ↦ h
    ]

-- the first term of sum j is item j, and the others are after the first n items
pub every_front : {A : Type 0} (n j : ℕ) (d : A) (xs : List A) → j < n → n ≤ length xs → every n j 0 xs ≡ get_or xs j d ∷ every n j n (drop n xs)
every_front n j d xs l m =
    let long : length (take n xs) ≡ n = length-take-le n xs m in
    let at : 0 + length (take n xs) ≡ n = omega (arith, long) in
    ap (every n j 0) (sym (take-append-drop n xs)) ∙ every_append n j 0 (take n xs) (drop n xs)
    ∙ ap (λ k. every n j 0 (take n xs) ++ every n j k (drop n xs)) at
    ∙ ap (λ zs. zs ++ every n j n (drop n xs)) ((every_few n j d (take n xs) (omega (arith, long))).0 (omega (arith, long)) ∙ ap (λ z. z ∷ [])
    (get_or-take n xs j d l))
