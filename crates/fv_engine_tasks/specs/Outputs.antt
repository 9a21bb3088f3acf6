-- What is read of the lanes of the outputs.
use Rattle.std.specs.Prelude.{ℕ, ◌<◌, List, length, ℤ}
use Rattle.fv_loopcode.specs.headline.Lanes.{Lane, lane_of, sample_at}
use Rattle.fv_loopcode.specs.Lanes.{HasSample}

-- the lane is there and has this sample of the block
abbrev pub CanRead : List Lane → (index : ℕ) → ℕ → Type 0
CanRead lanes index l = (l < length lanes) × HasSample (lane_of lanes l) index 0

-- that sample
abbrev pub sample_of : List Lane → (index : ℕ) → ℕ → ℤ
sample_of lanes index l = sample_at (lane_of lanes l) index 0
