-- A block, by what determines its samples (this project's profile).
use Rattle.std.specs.Prelude.{ℕ, ◌+◌, ◌-◌, ◌/◌}

-- how many vectors a block of this many frames has
abbrev pub vectors_of : (frames vector : ℕ) → ℕ
vectors_of frames vector = (frames + (vector - 1)) / vector
