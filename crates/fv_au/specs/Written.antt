-- What is written is read again (Sun audio; this project's profile).
use Rattle.std.specs.Prelude.{◌≡◌, ℕ, ◌+◌, ◌*◌, ◌/◌, List, ◌++◌, length, get_or, flat_map, Some, Ok, ℤ, pos}
use Rattle.fv_pcm.specs.Words.{clamped}
use Rattle.fv_pcm.specs.Frames.{table}
use Rattle.fv_pcm.specs.declared.coding.Coding.TheVariants.{Au}
use Rattle.fv_pcm.specs.headline.Coded.{sample_bytes}
use Rattle.fv_pcm.specs.headline.Sizes.{data_size}
use Rattle.fv_pcm.specs.Sizes.{frames_in}
use Rattle.fv_wav.specs.Written.{CanBeWritten}
use Rattle.fv_au.specs.declared.head.AuHead.{AuHead}
use Rattle.fv_au.specs.headline.Reading.{au, head_bytes}
use Rattle.fv_au.specs.Reading.{IsAu, layout_of}

-- a whole file of these samples, one frame after another
abbrev pub file_bytes : (channels rate bits : ℕ) → List ℤ → List ℕ
file_bytes channels rate bits samples = head_bytes channels rate bits (length samples * (bits / 8)) ++ flat_map (sample_bytes Au bits) samples

-- the head of a whole file of these samples, of this many frames
abbrev pub head_written : (channels rate bits frames : ℕ) → AuHead
head_written channels rate bits frames =
    record { channels = channels; rate = rate; bits = bits; data_bytes = Some (data_size channels bits frames); offset = 24 }

-- What is written is read again: the head, and the samples, clamped to the width.
abbrev pub IsAuReadBack : Type 0
IsAuReadBack =
    (channels rate bits frames : ℕ) (samples : List ℤ) → CanBeWritten channels rate bits frames samples
    → IsAu (file_bytes channels rate bits samples)
    × (au (file_bytes channels rate bits samples) ≡ Ok (head_written channels rate bits frames))
    × (frames_in Au (layout_of (head_written channels rate bits frames) (data_size channels bits frames)) (file_bytes channels rate bits samples)
    ≡ table frames (λ t. table channels (λ i. clamped bits (get_or samples (t * channels + i) (pos 0)))))
