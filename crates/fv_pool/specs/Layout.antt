-- The lengths of parts, in order (this project's profile).
use Rattle.std.specs.Prelude.{ℕ, ◌≡◌, ◌≤◌, ◌<◌, List, length, sum, take, drop, slice_index, ℤ}

-- the parts of these lengths find room in the cells
abbrev pub HaveRoom : List ℕ → List ℤ → Type 0
HaveRoom lengths cells = sum lengths ≤ length cells

-- each place is the sum of the lengths before it
abbrev pub ArePlaces : List ℕ → List ℕ → Type 0
ArePlaces lengths places = (length places ≡ length lengths) × ((i : ℕ) → i < length lengths → slice_index places i ≡ sum (take i lengths))

-- part i of the cells
abbrev pub part : List ℕ → ℕ → List ℤ → List ℤ
part lengths i cells = take (slice_index lengths i) (drop (sum (take i lengths)) cells)
