-- Calls at the places of a list that begins at a place of a longer one (this project's profile).
use Rattle.std.specs.Prelude.{◌≡◌, ℕ, ◌+◌, ◌^◌, ◌<◌, List, length, get_or}

-- P holds of each place and what stands there, and each place has a number of 64 bits
pub record AreReady {X : Type 0} (P : ℕ → X → Type 0) (from : ℕ) (xs : List X) : Type 0 where
  pub room : from + length xs < 2 ^ 64
  pub each : (k : ℕ) (d : X) → k < length xs → P (from + k) (get_or xs k d)

-- R holds of each place and of what stood there before and stands there after
pub record HaveChanged {X : Type 0} (R : ℕ → X → X → Type 0) (from : ℕ) (xs ys : List X) : Type 0 where
  pub long : length ys ≡ length xs
  pub each : (k : ℕ) (d : X) → k < length xs → R (from + k) (get_or xs k d) (get_or ys k d)
