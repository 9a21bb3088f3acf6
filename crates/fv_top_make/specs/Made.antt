-- What calls say beside `headline/Made`: the text and the noise of a program that is made, and the sum of its output (this project's profile).
use Rattle.std.specs.Prelude.{◌≡◌, ℕ, zero, suc, List, [], ◌∷◌, ℤ, pos, ◌+ℤ◌}
use Rattle.fv_num.specs.headline.Words.{wrap}
use Rattle.fv_top_make.specs.headline.Made.{next_state, sum_of}

-- the state of the noise after this many samples
abbrev pub state_behind : ℤ → ℕ → ℤ
state_behind s zero = s
state_behind s (suc n) = state_behind (next_state s) n

-- a sum, and these samples added to it one by one
abbrev pub sum_from : ℤ → List ℤ → ℤ
sum_from sum [] = sum
sum_from sum (x ∷ xs) = sum_from (wrap (sum +ℤ x)) xs

-- samples that are added one by one come to their sum
abbrev pub SumsAddUp : Type 0
SumsAddUp = (samples : List ℤ) → sum_from (pos 0) samples ≡ sum_of samples
