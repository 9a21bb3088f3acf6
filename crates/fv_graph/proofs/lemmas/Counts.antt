-- Counting in lists: what a change of one place, of one end or of one element does to a total.
use Rattle.std.proofs.Common.{◌≡◌, ◌≢◌, ℕ, zero, suc, ◌+◌, ◌-◌, ◌<◌, ◌≤◌, Bool, true, false, cond, not, ◌&&◌, List, [], ◌∷◌, ◌++◌, length, get_or}
use Rattle.std.proofs.Common.{set, refl, sym, ap, ◌∙◌, arith, eq-eqb, ne_eqb, ltb, leb, ◌||◌, ltb-true, true≢false, ◌==◌, map}
use mathlib.Core.Logic.{dite}
use native.Mathlib.Decide.{ℕ_discrete}
use Rattle.fv_outside.specs.headline.Tasks.{bit, total}
use Rattle.fv_outside.specs.Tasks.{times}
use Rattle.fv_graph.specs.Words.{passing}

pub bit_le : (b : Bool) → bit b ≤ 1
bit_le true = omega arith
bit_le false = omega arith

pub bit_same : (a b : ℕ) → a ≡ b → bit (a == b) ≡ 1
bit_same a b e = ap bit (eq-eqb a b e)

pub bit_apart : (a b : ℕ) → a ≢ b → bit (a == b) ≡ 0
bit_apart a b n = ap bit (ne_eqb a b n)

pub bit_swap : (a b : ℕ) → bit (a == b) ≡ bit (b == a)
bit_swap a b = dite (ℕ_discrete a b) (λ e. bit_same a b e ∙ sym (bit_same b a (sym e))) (λ n. bit_apart a b n ∙ sym (bit_apart b a (λ e. n (sym e))))

pub bit_one : (a b : ℕ) → 0 < bit (a == b) → a ≡ b
bit_one a b h = dite (ℕ_discrete a b) (λ e. e) (λ n. let z = bit_apart a b n in absurd (omega arith))

pub both_true : (a b : Bool) → (a && b) ≡ true → (a ≡ true) × (b ≡ true)
both_true true b e = (refl, e)
both_true false b e = absurd (true≢false (sym e))

pub not_true : (a : Bool) → not a ≡ true → a ≡ false
not_true true e = absurd (true≢false (sym e))
not_true false e = refl

pub bit_true : (b : Bool) → 0 < bit b → b ≡ true
bit_true true h = refl
bit_true false h = absurd (omega arith)

module _ {X : Type 0} (f : X → ℕ) where
  pub total_set : (xs : List X) (i : ℕ) (y d : X) → i < length xs → total f (set xs i y) + f (get_or xs i d) ≡ total f xs + f y
  total_set [] i y d h = absurd (omega arith)
  total_set (x ∷ xs) zero y d h = omega arith
  total_set (x ∷ xs) (suc i) y d h = let r = total_set xs i y d (omega arith) in omega arith

  pub total_at : (xs : List X) (i : ℕ) (d : X) → i < length xs → f (get_or xs i d) ≤ total f xs
  total_at [] i d h = absurd (omega arith)
  total_at (x ∷ xs) zero d h = omega arith
  total_at (x ∷ xs) (suc i) d h = let r = total_at xs i d (omega arith) in omega arith

  pub total_append : (xs ys : List X) → total f (xs ++ ys) ≡ total f xs + total f ys
  total_append [] ys = omega arith
  total_append (x ∷ xs) ys = let r = total_append xs ys in omega arith

  -- a total is 0 where each term is
  pub total_zero : (xs : List X) (d : X) → ((i : ℕ) → i < length xs → f (get_or xs i d) ≡ 0) → total f xs ≡ 0
  total_zero [] d h = refl
  total_zero (x ∷ xs) d h = let a = h 0 (omega arith) in let r = total_zero xs d (λ i l. h (suc i) (omega arith)) in omega arith

pub total_add : {X : Type 0} (f g : X → ℕ) (xs : List X) → total (λ x. f x + g x) xs ≡ total f xs + total g xs
total_add f g [] = refl
total_add f g (x ∷ xs) = let r = total_add f g xs in omega arith

-- what is read at j after a write at i
pub get_set : {X : Type 0} (P : X → Type 0) (xs : List X) (i j : ℕ) (y d : X) → i < length xs → (j ≡ i → P y) → (j ≢ i → P (get_or xs j d))
    → P (get_or (set xs i y) j d)
get_set P [] i j y d h a b = absurd (omega arith)
get_set P (x ∷ xs) zero zero y d h a b = a refl
get_set P (x ∷ xs) zero (suc j) y d h a b = b (λ e. omega arith)
get_set P (x ∷ xs) (suc i) zero y d h a b = b (λ e. omega arith)
get_set P (x ∷ xs) (suc i) (suc j) y d h a b = get_set P xs i j y d (omega arith) (λ e. a (ap suc e)) (λ n. b (λ e. n (omega arith)))

-- a task that was not done is done
pub done_set : (done : List Bool) (t : ℕ) → t < length done → get_or done t false ≡ false → (x : ℕ)
    → bit (get_or (set done t true) x false) ≡ bit (get_or done x false) + bit (x == t)
done_set done t h was x = get_set (λ b. bit b ≡ bit (get_or done x false) + bit (x == t)) done t x true false h
    (λ e. let o = bit_same x t e in let z : bit (get_or done x false) ≡ 0 = ap (λ k. bit (get_or done k false)) e ∙ ap bit was in omega arith)
    (λ n. let z = bit_apart x t n in omega arith)

-- a count falls by one
pub count_set : (counts : List ℕ) (r : ℕ) → r < length counts → 0 < get_or counts r 1 → (t : ℕ)
    → get_or (set counts r (get_or counts r 1 - 1)) t 1 + bit (r == t) ≡ get_or counts t 1
count_set counts r h some t = get_set (λ c. c + bit (r == t) ≡ get_or counts t 1) counts r t (get_or counts r 1 - 1) 1 h
    (λ e. let o = bit_same r t (sym e) in let z : get_or counts t 1 ≡ get_or counts r 1 = ap (λ k. get_or counts k 1) e in omega arith)
    (λ n. let z = bit_apart r t (λ e. n (sym e)) in omega arith)

-- where each term is at most 1, and that of e is 0
pub spare : (a : ℕ → ℕ) → ((x : ℕ) → a x ≤ 1) → (e : ℕ) → a e ≡ 0 → (xs : List ℕ) → total a xs + times e xs ≤ length xs
spare a most e none [] = omega arith
spare a most e none (y ∷ ys) = let r = spare a most e none ys in let m = most y in
    dite (ℕ_discrete y e) (λ s. let o = bit_same y e s in let z : a y ≡ 0 = ap a s ∙ none in omega arith) (λ n. let o = bit_apart y e n in omega arith)

-- where all is full, each term is 1
pub full : (a : ℕ → ℕ) → ((x : ℕ) → a x ≤ 1) → (xs : List ℕ) → length xs ≤ total a xs → (e : ℕ) → 0 < times e xs → a e ≡ 1
full a most xs all e some = dite (ℕ_discrete (a e) 0) (λ z. let r = spare a most e z xs in absurd (omega arith)) (λ n. let m = most e in omega arith)

pub full_total : (a : ℕ → ℕ) (xs : List ℕ) → ((e : ℕ) → 0 < times e xs → a e ≡ 1) → total a xs ≡ length xs
full_total a [] h = refl
full_total a (x ∷ xs) h = let o = bit_same x x refl in let p = h x (omega arith) in let r = full_total a xs (λ e s. h e (omega arith)) in omega arith

pub bit_false : (b : Bool) → bit b ≡ 0 → b ≡ false
bit_false true e = absurd (omega arith)
bit_false false e = refl

pub bit_left : (a b : Bool) → a ≡ true → bit (a && b) ≡ bit b
bit_left true b e = refl
bit_left false b e = absurd (true≢false (sym e))

pub bit_right : (a b : Bool) → bit b ≡ 0 → bit (a && b) ≡ 0
bit_right true b e = e
bit_right false b e = refl

pub bit_wide : (a b : Bool) → bit b ≡ 1 → bit (a && b) ≡ bit a
bit_wide true b e = e
bit_wide false b e = refl

pub bit_both : (a p q r : Bool) → bit p ≡ bit q + bit r → bit (a && p) ≡ bit (a && q) + bit (a && r)
bit_both true p q r e = e
bit_both false p q r e = omega arith

pub total_none : (xs : List ℕ) → total (λ _. 0) xs ≡ 0
total_none [] = refl
total_none (x ∷ xs) = let r = total_none xs in omega arith

pub false_of : (b : Bool) → (b ≡ true → ⊥) → b ≡ false
false_of true f = absurd (f refl)
false_of false f = refl

pub both_of : (a b : Bool) → a ≡ true → b ≡ true → (a && b) ≡ true
both_of true b p q = q
both_of false b p q = p

pub not_ltb : (a b : ℕ) → b ≤ a → ltb a b ≡ false
not_ltb a b h = false_of (ltb a b) (λ e. let l = ltb-true a b e in omega arith)

pub map_hit : (f : ℕ → ℕ) (k e : ℕ) → f k ≡ e → ((j : ℕ) → f j ≡ e → j ≡ k) → (xs : List ℕ) → times e (map f xs) ≡ times k xs
map_hit f k e is inj [] = refl
map_hit f k e is inj (x ∷ xs) = let r = map_hit f k e is inj xs in dite (ℕ_discrete x k)
    (λ s. let a = bit_same x k s in let b = bit_same (f x) e (ap f s ∙ is) in omega arith)
    (λ n. let a = bit_apart x k n in let b = bit_apart (f x) e (λ q. n (inj x q)) in omega arith)

pub map_miss : (f : ℕ → ℕ) (e : ℕ) (xs : List ℕ) → ((j : ℕ) → 0 < times j xs → f j ≢ e) → times e (map f xs) ≡ 0
map_miss f e [] h = refl
map_miss f e (x ∷ xs) h = let o = bit_same x x refl in let r = map_miss f e xs (λ j p. h j (omega arith)) in
    let a = bit_apart (f x) e (h x (omega arith)) in omega arith

pub times_chosen : (b : Bool) (x : ℕ) (xs : List ℕ) (t : ℕ) → times t (cond b (x ∷ xs) xs) ≡ bit (b && (x == t)) + times t xs
times_chosen true x xs t = refl
times_chosen false x xs t = omega arith

pub times_below : (p : ℕ → Bool) (from n t : ℕ) → t < from → times t (passing p from n) ≡ 0
times_below p from zero t h = refl
times_below p from (suc n) t h = let r = times_below p (suc from) n t (omega arith) in let c = times_chosen (p from) from (passing p (suc from) n) t in
    let z = bit_right (p from) (from == t) (bit_apart from t (λ e. omega arith)) in omega arith

pub times_above : (p : ℕ → Bool) (from n t : ℕ) → from + n ≤ t → times t (passing p from n) ≡ 0
times_above p from zero t h = refl
times_above p from (suc n) t h = let r = times_above p (suc from) n t (omega arith) in let c = times_chosen (p from) from (passing p (suc from) n) t in
    let z = bit_right (p from) (from == t) (bit_apart from t (λ e. omega arith)) in omega arith

pub bit_first : (a b : Bool) → bit b ≡ 1 → bit (a && b) ≡ bit a
bit_first true b e = e
bit_first false b e = refl

pub times_passing : (p : ℕ → Bool) (from n t : ℕ) → from ≤ t → t < from + n → times t (passing p from n) ≡ bit (p t)
times_passing p from zero t low high = absurd (omega arith)
times_passing p from (suc n) t low high = let c = times_chosen (p from) from (passing p (suc from) n) t in dite (ℕ_discrete from t)
    (λ e. let o = bit_first (p from) (from == t) (bit_same from t e) in let r = times_below p (suc from) n t (omega arith) in
    let q : bit (p from) ≡ bit (p t) = ap (λ k. bit (p k)) e in omega arith)
    (λ ne. let z = bit_right (p from) (from == t) (bit_apart from t ne) in let lo : suc from ≤ t = omega arith in
    let r = times_passing p (suc from) n t lo (omega arith) in omega arith)

pub bits_agree : (p q : Bool) → (p ≡ true → q ≡ true) → (q ≡ true → p ≡ true) → bit p ≡ bit q
bits_agree true q a b = ap bit (sym (a refl))
bits_agree false q a b = ap bit (sym (false_of q (λ e. true≢false (sym (b e)))))

pub eq_of : (a b : ℕ) → (a == b) ≡ true → a ≡ b
eq_of a b e = bit_one a b (let o : bit (a == b) ≡ 1 = ap bit e in omega arith)

pub leb_of : (a b : ℕ) → a ≤ b → leb a b ≡ true
leb_of a b h = grind arith

pub of_leb : (a b : ℕ) → leb a b ≡ true → a ≤ b
of_leb a b h = grind arith

pub either_left : (a b : Bool) → a ≡ true → (a || b) ≡ true
either_left true b e = refl
either_left false b e = absurd (true≢false (sym e))

pub either_right : (a b : Bool) → b ≡ true → (a || b) ≡ true
either_right true b e = refl
either_right false b e = e

-- a fact that follows from each of two follows from either
pub one_of : (a b : Bool) (P : Type 0) → (a || b) ≡ true → (a ≡ true → P) → (b ≡ true → P) → P
one_of true b P e p q = p refl
one_of false b P e p q = q e

pub get_map : {A B : Type 0} (f : A → B) (xs : List A) (i : ℕ) (d : A) (e : B) → i < length xs → get_or (map f xs) i e ≡ f (get_or xs i d)
get_map f [] i d e h = absurd (omega arith)
get_map f (x ∷ xs) zero d e h = refl
get_map f (x ∷ xs) (suc i) d e h = get_map f xs i d e (omega arith)

pub bools_agree : (p q : Bool) → (p ≡ true → q ≡ true) → (q ≡ true → p ≡ true) → p ≡ q
bools_agree true q a b = sym (a refl)
bools_agree false true a b = b refl
bools_agree false false a b = refl
