-- What no call says beside `headline/Samples`: samples and frames as bytes in a WAV file (RIFF WAVE 1991).
use Rattle.std.specs.Prelude.{ℕ, List, ℤ}
use Rattle.fv_pcm.specs.Frames.{Frame}
use Rattle.fv_pcm.specs.declared.coding.Coding.TheVariants as coding
use Rattle.fv_pcm.specs.headline.Coded.{sample_of as coded_sample, sample_at as coded_at, frame_bytes as coded_frame}
use Rattle.fv_pcm.specs.headline.Sizes.{stated_frames as frames_stated}
use Rattle.fv_pcm.specs.Sizes.{frames_present as whole_frames}
use Rattle.fv_wav.specs.declared.head.Head.{Head}
use Rattle.fv_wav.specs.Samples.{layout_of}

-- ---- reading

-- the sample in the first bytes
abbrev pub sample_of : (bits : ℕ) → List ℕ → ℤ
sample_of bits bytes = coded_sample coding.Wave bits bytes

-- sample j of these bytes
abbrev pub sample_at : (bits : ℕ) → List ℕ → ℕ → ℤ
sample_at bits bytes j = coded_at coding.Wave bits bytes j

-- the whole frames that a head states, and their bytes
abbrev pub stated_frames : Head → ℕ
stated_frames head = frames_stated (layout_of head)

-- the number of whole frames present
abbrev pub frames_present : Head → List ℕ → ℕ
frames_present head bytes = whole_frames (layout_of head) bytes

-- ---- writing

abbrev pub frame_bytes : (bits : ℕ) → Frame → List ℕ
frame_bytes bits x = coded_frame coding.Wave bits x
