-- The numbers of frames that lie one after another (this project's profile).
use Rattle.std.specs.Prelude.{ℕ, ◌+◌, ◌*◌, List, slice_index_or, ℤ, pos}

-- the number at an index of frame t, where a frame has width numbers
abbrev pub number_in : List ℤ → (width t place : ℕ) → ℤ
number_in xs width t place = slice_index_or xs (t * width + place) (pos 0)
