-- What a tape was asked for when it stopped (this project's profile).
use Rattle.std.specs.Prelude.{ℕ, ℤ, List}

pub data Act : Type 0 where
  -- to begin
  Beginning : Act
  -- for this many frames
  Hearing : (frames : ℕ) → Act
  -- to take these samples
  Saying : (samples : List ℤ) → Act
