-- Frames and controls on which a simpler graph is compared (this project's profile).
use Rattle.std.specs.Prelude.{ℕ, ◌<◌, List, length, FitsSigned, slice_index_or}
use Rattle.std.specs.Int.{w32}
use Rattle.fv_num.specs.headline.Frames.{Frame, Stream, column}
use Rattle.fv_num.specs.headline.Interval.{Interval, IsWithin, full}

-- frames and controls of 32-bit numbers, each control in its span
pub record AreSmallIn (spans : List Interval) (X : List Frame) (c : ℕ → Stream) : Type 0 where
  pub frames : (i t : ℕ) → FitsSigned w32 (column X i t)
  pub controls : (k t : ℕ) → FitsSigned w32 (c k t)
  pub within : (k t : ℕ) → k < length spans → IsWithin (slice_index_or spans k full) (c k t)
