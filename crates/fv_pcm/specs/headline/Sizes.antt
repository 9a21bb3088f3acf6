-- Frames in a file: how long they are, how many there are, and which.
use Rattle.std.specs.Prelude.{ℕ, ◌*◌, ◌/◌, List, take, drop}
use Rattle.fv_base.specs.declared.limits.TheConstants.{DATA_LIMIT}

-- the bytes of a frame
abbrev pub frame_size : (channels bits : ℕ) → ℕ
frame_size channels bits = channels * (bits / 8)

-- Where samples lie in a file: how many a frame has, and their bits; how many bytes of them are stated, and how many bytes stand
-- before them.
pub record Layout : Type 0 where
  pub channels : ℕ
  pub bits : ℕ
  pub size : ℕ
  pub place : ℕ

-- the whole frames that are stated, and their bytes
abbrev pub stated_frames : Layout → ℕ
stated_frames l = l.size / frame_size l.channels l.bits

-- the bytes of the whole frames that are stated
abbrev pub whole_bytes : Layout → ℕ
whole_bytes l = stated_frames l * frame_size l.channels l.bits

-- what is there of the whole frames, in a file of these bytes
abbrev pub present : Layout → List ℕ → List ℕ
present l bytes = take (whole_bytes l) (drop l.place bytes)

-- the most bytes of samples that a head can state
abbrev pub data_limit : ℕ
data_limit = DATA_LIMIT

-- how many bytes the samples of this many frames have, if a head can state them
abbrev pub data_size : (channels bits frames : ℕ) → ℕ
data_size channels bits frames = frames * frame_size channels bits
