-- What calls say beside `headline/Samples`: samples and frames as bytes in a WAV file (RIFF WAVE 1991).
use Rattle.std.specs.Prelude.{◌≡◌, ℕ, true, ◌≤◌, ◌+◌, ◌*◌, List, length, take, drop, ℤ}
use Rattle.fv_pcm.specs.Words.{is_sample_width}
use Rattle.fv_pcm.specs.Frames.{Frame}
use Rattle.fv_pcm.specs.declared.coding.Coding.TheVariants as coding
use Rattle.fv_pcm.specs.headline.Coded.{sample_bytes as coded_bytes}
use Rattle.fv_pcm.specs.Coded.{samples_in as coded_samples}
use Rattle.fv_pcm.specs.headline.Sizes.{Layout, whole_bytes as bytes_stated, present as bytes_present}
use Rattle.fv_pcm.specs.Sizes.{frames_in as coded_frames}
use Rattle.fv_wav.specs.headline.Reading.{frame_size}
use Rattle.fv_wav.specs.declared.head.Head.{Head}
use Rattle.fv_wav.specs.headline.Samples.{rows}

-- ---- reading

-- the first n samples
abbrev pub samples_in : (bits n : ℕ) → List ℕ → List ℤ
samples_in bits n bytes = coded_samples coding.Wave bits n bytes

-- where the samples of a file with this head lie
abbrev pub layout_of : Head → Layout
layout_of head = record { channels = head.channels; bits = head.bits; size = head.data_bytes; place = head.place }

abbrev pub whole_bytes : Head → ℕ
whole_bytes head = bytes_stated (layout_of head)

-- what is there of the whole frames, in a file of these bytes
abbrev pub present : Head → List ℕ → List ℕ
present head bytes = bytes_present (layout_of head) bytes

-- the whole frames present
abbrev pub frames_in : Head → List ℕ → List Frame
frames_in head bytes = coded_frames coding.Wave (layout_of head) bytes

-- The samples after t frames are the next frames that are present.
abbrev pub Follow : Type 0
Follow =
    (head : Head) (bytes : List ℕ) (t n : ℕ) → 1 ≤ head.channels → is_sample_width head.bits ≡ true
    → (t + n) * frame_size head.channels head.bits ≤ length (present head bytes)
    → rows head.channels n (samples_in head.bits (n * head.channels) (drop (head.place + t * frame_size head.channels head.bits) bytes))
    ≡ take n (drop t (frames_in head bytes))

-- ---- writing

-- the bytes of a number clamped to the width
abbrev pub sample_bytes : (bits : ℕ) → ℤ → List ℕ
sample_bytes bits x = coded_bytes coding.Wave bits x
