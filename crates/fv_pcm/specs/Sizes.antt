-- What calls say beside `headline/Sizes`: frames in a file: how long they are, how many there are, and which.
use Rattle.std.specs.Prelude.{◌≡◌, ℕ, true, ◌≤◌, ◌+◌, ◌*◌, ◌/◌, nat_le, List, length, take, drop, Option, Some, None, ℤ, if◌then◌else◌}
use Rattle.fv_num.specs.headline.Words.{argument, is_sample_width}
use Rattle.fv_num.specs.headline.Frames.{Frame, table}
use Rattle.fv_pcm.specs.declared.coding.Coding.{Coding}
use Rattle.fv_pcm.specs.headline.Coded.{sample_at}
use Rattle.fv_pcm.specs.Coded.{samples_in}
use Rattle.fv_pcm.specs.headline.Sizes.{frame_size, Layout, present, data_limit, data_size}

-- the number of whole frames present
abbrev pub frames_present : Layout → List ℕ → ℕ
frames_present l bytes = length (present l bytes) / frame_size l.channels l.bits

-- The whole frames present: sample i of frame t is sample t * channels + i.
abbrev pub frames_in : Coding → Layout → List ℕ → List Frame
frames_in c l bytes = table (frames_present l bytes) (λ t. table l.channels (λ i. sample_at c l.bits (present l bytes) (t * l.channels + i)))

-- n frames of samples that stand one after another
abbrev pub rows : (channels n : ℕ) → List ℤ → List Frame
rows channels n xs = table n (λ t. table channels (λ i. argument xs (t * channels + i)))

-- The samples after t frames are the next frames that are present.
abbrev pub SamplesFollow : Type 0
SamplesFollow =
    (c : Coding) (l : Layout) (bytes : List ℕ) (t n : ℕ) → 1 ≤ l.channels → is_sample_width l.bits ≡ true
    → (t + n) * frame_size l.channels l.bits ≤ length (present l bytes)
    → rows l.channels n (samples_in c l.bits (n * l.channels) (drop (l.place + t * frame_size l.channels l.bits) bytes))
    ≡ take n (drop t (frames_in c l bytes))

abbrev pub data_length_of : (channels bits frames : ℕ) → Option ℕ
data_length_of channels bits frames = if nat_le (data_size channels bits frames) data_limit then Some (data_size channels bits frames) else None
