-- Frames and streams of numbers.
use Rattle.std.specs.Prelude.{ℕ, zero, suc, ◌+◌, ◌-◌, ◌*◌, min, List, [], map, flat_map, get_or, ℤ, pos, negsuc, if◌then◌else◌, nat_le}
pub use Rattle.fv_base.specs.headline.Lists.{table}
use Rattle.fv_num.specs.headline.Words.{argument}

-- one number for each wire
abbrev pub Frame : Type 0
Frame = List ℤ

-- one number for each time
abbrev pub Stream : Type 0
Stream = ℕ → ℤ

-- the frame at time t
abbrev pub frame_at : List Frame → ℕ → Frame
frame_at X t = get_or X t []

-- column i of the frames, at time t
abbrev pub column : List Frame → ℕ → Stream
column X i t = get_or (frame_at X t) i (pos 0)

-- a stream one sample later, 0 at time 0
abbrev pub delayed : Stream → Stream
delayed x zero = pos 0
delayed x (suc t) = x t

-- the first sample of x, and then y one sample later
abbrev pub prefixed : Stream → Stream → Stream
prefixed x y zero = x 0
prefixed x y (suc t) = y t

-- the sample d before time t, 0 where there is none
abbrev pub back : Stream → ℕ → ℤ → ℤ
back x t (pos d) = if nat_le d t then x (t - d) else pos 0
back x t (negsuc d) = pos 0

-- how far back a number says, from 0 to the greatest
abbrev pub back_by : (greatest : ℕ) → ℤ → ℕ
back_by greatest (pos d) = min d greatest
back_by greatest (negsuc d) = 0

-- the frame that the wires carry at time t, where wire w carries the stream v w
abbrev pub carried : (ℕ → Stream) → List ℕ → ℕ → Frame
carried v ws t = map (λ w. v w t) ws

-- the n frames of samples that stand one after another
abbrev pub rows : (width n : ℕ) → List ℤ → List Frame
rows width n samples = table n (λ t. table width (λ j. argument samples (t * width + j)))

-- the samples of frames, one after another
abbrev pub joined : List Frame → List ℤ
joined X = flat_map (λ (x : Frame). x) X
