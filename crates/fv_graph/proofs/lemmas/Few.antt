-- A list in which no number stands twice, and all stand below n, has at most n elements. So a deque has room for a task that lies in none.
use Rattle.std.proofs.Common.{◌≡◌, ◌≢◌, ℕ, zero, suc, ◌+◌, ◌<◌, ◌≤◌, true, List, [], ◌∷◌, length, refl, sym, ap, ◌∙◌, arith, ◌==◌}
use mathlib.Core.Logic.{dite}
use native.Mathlib.Decide.{ℕ_discrete, dec_le}
use Rattle.fv_graph.specs.Tasks.{bit, total}
use Rattle.fv_graph.specs.TasksBeside.{times}
use Rattle.fv_graph.specs.Words.{passing}
use Rattle.fv_graph.specs.Net.{Net}
use Rattle.fv_graph.specs.Core.{Now, numbers, deque_of, count_of}
use Rattle.fv_graph.specs.Valid.{IsValid}
use Rattle.fv_graph.proofs.lemmas.Counts.{bit_le, bit_same, bit_apart, bit_swap, total_add, total_at, total_none, times_passing}

like : (f g : ℕ → ℕ) → ((x : ℕ) → f x ≡ g x) → (xs : List ℕ) → total f xs ≡ total g xs
like f g e xs = ap (λ (h : ℕ → ℕ). total h xs) (λ i x. e x i)

at_most : (f : ℕ → ℕ) → ((x : ℕ) → f x ≤ 1) → (xs : List ℕ) → total f xs ≤ length xs
at_most f m [] = omega arith
at_most f m (x ∷ xs) = let r = at_most f m xs in let p = m x in omega arith

long_numbers : (from k : ℕ) → length (passing (λ _. true) from k) ≡ k
long_numbers from zero = refl
long_numbers from (suc k) = ap suc (long_numbers (suc from) k)

counted_by : (n : ℕ) (xs : List ℕ) → ((x : ℕ) → n ≤ x → times x xs ≡ 0) → total (λ x. times x xs) (numbers n) ≡ length xs
counted_by n [] h = total_none (numbers n)
counted_by n (y ∷ ys) h =
    let low : y < n = dite (dec_le n y) (λ l. let z = h y l in let o = bit_same y y refl in absurd (omega arith)) (λ l. omega arith) in
    let a = total_add (λ x. bit (y == x)) (λ x. times x ys) (numbers n) in
    let b = like (λ x. bit (y == x)) (λ x. bit (x == y)) (λ x. bit_swap y x) (numbers n) in
    let c = times_passing (λ _. true) 0 n y (omega arith) (omega arith) in
    let r = counted_by n ys (λ x l. let z = h x l in omega arith) in omega arith

pub few : (n : ℕ) (xs : List ℕ) → ((x : ℕ) → times x xs ≤ 1) → ((x : ℕ) → n ≤ x → times x xs ≡ 0) → length xs ≤ n
few n xs once below = let a = counted_by n xs below in let b = at_most (λ x. times x xs) once (numbers n) in let l = long_numbers 0 n in omega arith

-- and one fewer where a number below n is not among them
pub fewer : (n t : ℕ) (xs : List ℕ) → ((x : ℕ) → times x xs ≤ 1) → ((x : ℕ) → n ≤ x → times x xs ≡ 0) → t < n → times t xs ≡ 0 → length xs < n
fewer n t xs once below there none = few n (t ∷ xs)
    (λ x. dite (ℕ_discrete t x) (λ e. let b = bit_same t x e in let z : times x xs ≡ 0 = ap (λ i. times i xs) (sym e) ∙ none in
    omega arith) (λ ne. let b = bit_apart t x ne in let o = once x in omega arith))
    (λ x l. let b = bit_apart t x (λ e. omega arith) in let z = below x l in omega arith)

-- a task whose count is above 0 lies in no deque, so each deque has fewer than all
pub deque_room : (n : Net) (workers : ℕ) (s : Now) → IsValid n workers s → (w t : ℕ) → w < workers → t < n.tasks → 0 < count_of s t
    → length (deque_of s w) < n.tasks
deque_room n workers s h w t hw there some_count =
    let wd : w < length s.deques = let l = h.deques_long in omega arith in
    let one : (x : ℕ) → times x (deque_of s w) ≤ total (times x) s.deques = λ x. total_at (times x) s.deques w [] wd in
    fewer n.tasks t (deque_of s w)
    (λ x. dite (dec_le n.tasks x) (λ l. let p = h.inside x l in let o = one x in omega arith) (λ l. let p = h.placed x (omega arith) in
    let o = one x in let b = bit_le (count_of s x == 0) in omega arith))
    (λ x l. let p = h.inside x l in let o = one x in omega arith)
    there
    (let p = h.placed t there in let o = one t in let z = ap bit (Rattle.std.proofs.Common.ne_eqb (count_of s t) 0 (λ q. omega arith)) in omega arith)
