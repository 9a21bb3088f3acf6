-- What is written is read again, clamped to the width.
use Rattle.std.specs.Prelude.{◌≡◌, ℕ, ◌+◌, ◌*◌, ◌≤◌, true, List, ◌++◌, length, get_or, flat_map, ℤ, pos}
use Rattle.fv_num.specs.headline.Words.{is_sample_width, clamped}
use Rattle.fv_num.specs.headline.Frames.{table}
use Rattle.fv_pcm.specs.declared.coding.Coding.{Coding}
use Rattle.fv_pcm.specs.headline.Coded.{sample_of, sample_bytes}
use Rattle.fv_pcm.specs.headline.Sizes.{Layout, frame_size}
use Rattle.fv_pcm.specs.Sizes.{frames_in}

-- A sample that is written is read again, whatever stands after it.
abbrev pub SampleIsReadAgain : Type 0
SampleIsReadAgain =
    (c : Coding) (bits : ℕ) (x : ℤ) (behind : List ℕ) → is_sample_width bits ≡ true → sample_of c bits (sample_bytes c bits x ++ behind) ≡ clamped bits x

-- frames of samples stand after the bytes before them, as the layout states
pub record AreStated (l : Layout) (frames : ℕ) (samples : List ℤ) (before : List ℕ) : Type 0 where
  pub some : 1 ≤ l.channels
  pub wide : is_sample_width l.bits ≡ true
  pub whole : length samples ≡ frames * l.channels
  pub size : l.size ≡ frames * frame_size l.channels l.bits
  pub place : length before ≡ l.place

-- Frames of samples that stand in a file are read again.
abbrev pub SamplesAreReadAgain : Type 0
SamplesAreReadAgain =
    (c : Coding) (l : Layout) (frames : ℕ) (samples : List ℤ) (before behind : List ℕ) → AreStated l frames samples before
    → frames_in c l (before ++ (flat_map (sample_bytes c l.bits) samples ++ behind))
    ≡ table frames (λ t. table l.channels (λ i. clamped l.bits (get_or samples (t * l.channels + i) (pos 0))))
