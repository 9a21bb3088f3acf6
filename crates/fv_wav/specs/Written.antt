-- What is written is read again (RIFF WAVE 1991; this project's profile).
use Rattle.std.specs.Prelude.{◌≡◌, ℕ, ◌+◌, ◌*◌, ◌/◌, ◌^◌, ◌<◌, ◌≤◌, true, List, ◌++◌, length, get_or, flat_map, Ok, ℤ, pos}
use Rattle.fv_base.specs.declared.limits.TheConstants.{MOST_CHANNELS}
use Rattle.fv_pcm.specs.Words.{is_sample_width, clamped}
use Rattle.fv_pcm.specs.Frames.{table}
use Rattle.fv_wav.specs.declared.head.Head.{Head}
use Rattle.fv_wav.specs.headline.Reading.{wave}
use Rattle.fv_wav.specs.headline.Samples.{head_bytes, pad_bytes, data_size, data_limit}
use Rattle.fv_wav.specs.Samples.{sample_bytes, frames_in}

-- a whole file of these samples, one frame after another
abbrev pub file_bytes : (channels rate bits : ℕ) → List ℤ → List ℕ
file_bytes channels rate bits samples =
    let size = length samples * (bits / 8) in head_bytes channels rate bits size ++ flat_map (sample_bytes bits) samples ++ pad_bytes size

-- the head of a whole file of these samples, of this many frames
abbrev pub head_of : (channels rate bits frames : ℕ) → Head
head_of channels rate bits frames = record { channels = channels; rate = rate; bits = bits; data_bytes = data_size channels bits frames; place = 44 }

-- a file that can be written: its fields are in their ranges, its frames are whole, and a head can state them
pub record CanBeWritten (channels rate bits frames : ℕ) (samples : List ℤ) : Type 0 where
  pub some : 1 ≤ channels
  pub few : channels ≤ MOST_CHANNELS
  pub rated : rate < 2 ^ 32
  pub bits_are : is_sample_width bits ≡ true
  pub whole : length samples ≡ frames * channels
  pub stated : data_size channels bits frames ≤ data_limit

-- What is written is read again: the head, and the samples, clamped to the width.
abbrev pub IsReadBack : Type 0
IsReadBack =
    (channels rate bits frames : ℕ) (samples : List ℤ) → CanBeWritten channels rate bits frames samples
    → (wave (file_bytes channels rate bits samples) ≡ Ok (head_of channels rate bits frames))
    × (frames_in (head_of channels rate bits frames) (file_bytes channels rate bits samples)
    ≡ table frames (λ t. table channels (λ i. clamped bits (get_or samples (t * channels + i) (pos 0)))))
