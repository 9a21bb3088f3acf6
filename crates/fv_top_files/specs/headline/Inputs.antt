-- Inputs of either kind: what their heads say, and the samples after them (RIFF WAVE 1991; Sun audio; this project's profile).
use Rattle.std.specs.Prelude.{ℕ, Option, Some, None, false, is_none, List, if◌then◌else◌}
use Rattle.fv_pcm.specs.declared.coding.Coding.{Coding}
use Rattle.fv_pcm.specs.declared.coding.Coding.TheVariants as coding
use Rattle.fv_pcm.specs.headline.Sizes.{whole_bytes as bytes_stated, stated_frames as frames_stated, present as bytes_present}
use Rattle.fv_wav.specs.declared.head.Head.{Head}
use Rattle.fv_au.specs.declared.head.AuHead.{AuHead}
use Rattle.fv_top_report.specs.declared.refusal.Refusal.{Refusal}
use Rattle.fv_top_report.specs.declared.refusal.Refusal.TheVariants as no
use Rattle.fv_file_tape.specs.declared.incoming.Incoming.{Incoming}
use Rattle.fv_file_tape.specs.headline.Tapes.{layout_of}

-- an input with the head of a WAV file
abbrev pub wave_incoming : Head → Incoming
wave_incoming h =
    record { coding = coding.Wave; channels = h.channels; rate = h.rate; bits = h.bits; data_bytes = h.data_bytes; is_open = false; place = h.place }

-- an input with the head of an AU file and this many bytes of samples, which the head may not state
abbrev pub au_incoming : AuHead → (data_bytes : ℕ) → Incoming
au_incoming h n =
    record { coding = coding.Au; channels = h.channels; rate = h.rate; bits = h.bits; data_bytes = n; is_open = is_none h.data_bytes; place = h.offset }

-- how many whole frames an input's head states
abbrev pub stated_frames : Incoming → ℕ
stated_frames h = frames_stated (layout_of h)

-- how many bytes the whole frames of an input have
abbrev pub whole_bytes : Incoming → ℕ
whole_bytes h = bytes_stated (layout_of h)

-- the bytes of samples that are read: those of the whole frames, or all where their size is not stated
abbrev pub read_bytes : Incoming → ℕ
read_bytes h = if h.is_open then h.data_bytes else whole_bytes h

-- what is there of the whole frames, in a file of these bytes
abbrev pub present : Incoming → List ℕ → List ℕ
present h bytes = bytes_present (layout_of h) bytes

-- a place within a file that ends too early, by the coding of its samples
abbrev pub truncated : Coding → (place : ℕ) → Refusal
truncated coding.Wave place = no.WaveTruncated place
truncated coding.Au place = no.AuTruncated place

-- the coding of an input's samples, which has none without a head
abbrev pub coding_in : Option Incoming → Coding
coding_in None = coding.Wave
coding_in (Some h) = h.coding
