-- The noise, one sample after the other, and the sum.
use Rattle.std.proofs.Common.{◌≡◌, ℕ, zero, suc, ◌+◌, List, [], ◌∷◌, ◌++◌, length, ℤ, pos, ◌+ℤ◌, fold, refl, sym, ap, ap₂, ◌∙◌, arith, length-append, w32}
use Rattle.std.proofs.lemmas.Int.{int_wrap-add_left}
use Rattle.std.specs.Int.{int_wrap}
use Rattle.fv_num.specs.headline.Words.{shifted_right, wrap}
use Rattle.fv_top_make.specs.headline.Made.{next_state, noise_behind}
use Rattle.fv_top_make.specs.Made.{SumsAddUp, state_behind, sum_from}
use Rattle.fv_top_make.specs.Noises.{Sounds}
use Rattle.fv_top_make.specs.declared.noise_tape.Noise.{Noise}

-- one sample more
pub noise_more : (s : ℤ) (n : ℕ) → noise_behind s (suc n) ≡ noise_behind s n ++ shifted_right (next_state (state_behind s n)) (pos 16) ∷ []
noise_more s zero = refl
noise_more s (suc n) = ap (λ xs. shifted_right (next_state s) (pos 16) ∷ xs) (noise_more (next_state s) n)

pub state_more : (s : ℤ) (n : ℕ) → state_behind s (suc n) ≡ next_state (state_behind s n)
state_more s zero = refl
state_more s (suc n) = state_more (next_state s) n

-- The noise of n + m samples is that of n, and then that of m from the state after them.
pub noise_add : (s : ℤ) (n m : ℕ) → noise_behind s (n + m) ≡ noise_behind s n ++ noise_behind (state_behind s n) m
noise_add s zero m = let e : zero + m ≡ m = omega arith in ap (noise_behind s) e
noise_add s (suc n) m =
    let e : suc n + m ≡ suc (n + m) = omega arith in
    ap (noise_behind s) e ∙ ap (λ xs. shifted_right (next_state s) (pos 16) ∷ xs) (noise_add (next_state s) n m)

pub state_add : (s : ℤ) (n m : ℕ) → state_behind s (n + m) ≡ state_behind (state_behind s n) m
state_add s zero m = let e : zero + m ≡ m = omega arith in ap (state_behind s) e
state_add s (suc n) m = let e : suc n + m ≡ suc (n + m) = omega arith in ap (state_behind s) e ∙ state_add (next_state s) n m

-- ---- sums

pub sum_add : (sum : ℤ) (xs ys : List ℤ) → sum_from sum (xs ++ ys) ≡ sum_from (sum_from sum xs) ys
sum_add sum [] ys = refl
sum_add sum (x ∷ xs) ys = sum_add (wrap (sum +ℤ x)) xs ys

pub sum_one : (sum : ℤ) (xs : List ℤ) (y : ℤ) → sum_from sum (xs ++ y ∷ []) ≡ wrap (sum_from sum xs +ℤ y)
sum_one sum xs y = sum_add sum xs (y ∷ [])

-- added one by one, or all at once
sum_is : (z : ℤ) (xs : List ℤ) → sum_from (wrap z) xs ≡ wrap (fold ◌+ℤ◌ z xs)
sum_is z [] = refl
sum_is z (x ∷ xs) = ap (λ s. sum_from s xs) (int_wrap-add_left w32 z x) ∙ sum_is (z +ℤ x) xs

nothing_wrapped : wrap (pos 0) ≡ pos 0
unfolding int_wrap
nothing_wrapped = refl

pub sums_added : SumsAddUp
sums_added xs = ap (λ (z : ℤ). sum_from z xs) (sym nothing_wrapped) ∙ sum_is (pos 0) xs

-- ---- the tape

pub sounds_on : (start old new : Noise) (h s to : List ℤ) (n : ℕ) → Sounds start old h s → length to ≡ n → to ≡ noise_behind old.state n
    → new.state ≡ state_behind old.state n → new.sum ≡ old.sum → Sounds start new (h ++ to) s
sounds_on start old new h s to n w long heard state sum =
    let all : length (h ++ to) ≡ length h + n = length-append h to ∙ ap (λ k. length h + k) long in
    record {
      heard = ap₂ (λ (xs ys : List ℤ). xs ++ ys) w.heard (heard ∙ ap (λ (t : ℤ). noise_behind t n) w.state) ∙ sym (noise_add start.state (length h) n)
          ∙ ap (noise_behind start.state) (sym all);
      state = state ∙ ap (λ (t : ℤ). state_behind t n) w.state ∙ sym (state_add start.state (length h) n) ∙ ap (state_behind start.state) (sym all);
      sum = sum ∙ w.sum;
    }

pub sounds_given : (start old new : Noise) (h s given : List ℤ) → Sounds start old h s → new.state ≡ old.state → new.sum ≡ sum_from old.sum given
    → Sounds start new h (s ++ given)
sounds_given start old new h s given w state sum = record {
  heard = w.heard;
  state = state ∙ w.state;
  sum = sum ∙ ap (λ (t : ℤ). sum_from t given) w.sum ∙ sym (sum_add start.sum s given);
}
