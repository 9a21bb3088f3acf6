-- What calls say beside `headline/Reading`: the head of an AU file (Sun audio; the ranges and the order of the rules are this project's profile).
use Rattle.std.specs.Prelude.{◌≡◌, ℕ, ◌*◌, ◌/◌, List, take}
use Rattle.std.specs.Prelude.{Option, Some, None, codes}
use Rattle.fv_pcm.specs.headline.Sizes.{Layout, frame_size, whole_bytes}
use Rattle.fv_au.specs.declared.head.AuHead.{AuHead}

-- the first four bytes of an AU file
abbrev pub IsAu : List ℕ → Type 0
IsAu bytes = take 4 bytes ≡ codes ".snd"

-- ---- samples

-- where the samples of a file with this head lie, if n bytes of them are there to be read
abbrev pub layout_of : AuHead → ℕ → Layout
layout_of head size = record { channels = head.channels; bits = head.bits; size = size; place = head.offset }

-- a size that is known
abbrev pub size_of : Option ℕ → ℕ
size_of (Some size) = size
size_of None = 0

-- the bytes of the whole frames that a head states, of a size that is known
abbrev pub stated_bytes : AuHead → ℕ
stated_bytes head = whole_bytes (layout_of head (size_of head.data_bytes))

-- how many samples the whole frames in n bytes have
abbrev pub whole_samples : AuHead → ℕ → ℕ
whole_samples head size = size / frame_size head.channels head.bits * head.channels
