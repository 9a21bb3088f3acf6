-- Places in lists, and how often a number stands before and after one.
use Rattle.std.proofs.Common.{◌≡◌, ◌≢◌, ℕ, zero, suc, ◌+◌, ◌<◌, List, [], ◌∷◌, length, get_or, take, drop, refl, sym, ap, ◌∙◌, arith}
use Rattle.std.proofs.Common.{◌==◌}
use Rattle.std.proofs.lemmas.List.{take_more, drop_more, take-append-drop}
use Rattle.fv_outside.specs.headline.Tasks.{bit}
use Rattle.fv_outside.specs.Tasks.{times}
use Rattle.fv_graph.proofs.lemmas.Counts.{bit_same, total_append}

-- what stands at a place stands in the list
pub times_at : (xs : List ℕ) (i d : ℕ) → i < length xs → 0 < times (get_or xs i d) xs
times_at [] i d h = absurd (omega arith)
times_at (x ∷ xs) zero d h = let o = bit_same x x refl in omega arith
times_at (x ∷ xs) (suc i) d h = let r = times_at xs i d (omega arith) in omega arith

-- a list cut at a place
pub times_cut : (xs : List ℕ) (i x : ℕ) → times x xs ≡ times x (take i xs) + times x (drop i xs)
times_cut xs i x = ap (times x) (sym (take-append-drop i xs)) ∙ total_append (λ y. bit (y == x)) (take i xs) (drop i xs)

pub times_drop : (xs : List ℕ) (i d x : ℕ) → i < length xs → times x (drop i xs) ≡ bit (get_or xs i d == x) + times x (drop (i + 1) xs)
times_drop xs i d x h = ap (times x) (drop_more xs i d h)

pub times_take : (xs : List ℕ) (i d x : ℕ) → i < length xs → times x (take (i + 1) xs) ≡ times x (take i xs) + bit (get_or xs i d == x)
times_take xs i d x h = ap (times x) (take_more xs i d h) ∙ total_append (λ y. bit (y == x)) (take i xs) (get_or xs i d ∷ []) ∙ omega arith

-- where each number stands once at most, what follows a place is not what stands there
pub apart_behind : (xs : List ℕ) (i d x : ℕ) → ((y : ℕ) → times y xs < 2) → i < length xs → 0 < times x (drop (i + 1) xs) → x ≢ get_or xs i d
apart_behind xs i d x once h there = λ e. let c = times_cut xs i x in let a = times_drop xs i d x h in let b = bit_same (get_or xs i d) x (sym e) in
    let o = once x in absurd (omega arith)

-- and what stands before it neither
pub apart_before : (xs : List ℕ) (i d x : ℕ) → ((y : ℕ) → times y xs < 2) → i < length xs → 0 < times x (take i xs) → x ≢ get_or xs i d
apart_before xs i d x once h there = λ e. let c = times_cut xs i x in let a = times_drop xs i d x h in let b = bit_same (get_or xs i d) x (sym e) in
    let o = once x in absurd (omega arith)

pub none_before : (xs : List ℕ) (i d : ℕ) → ((y : ℕ) → times y xs < 2) → i < length xs → times (get_or xs i d) (take i xs) ≡ 0
none_before xs i d once h = let x = get_or xs i d in let c = times_cut xs i x in let a = times_drop xs i d x h in let b = bit_same x x refl in
    let o = once x in omega arith
