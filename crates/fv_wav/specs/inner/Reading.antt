-- What no call says beside `headline/Reading`: the head of a WAV file, as its bytes come: each rule is tried as soon as the bytes that it
-- speaks of are there (RIFF WAVE 1991; WAVE_FORMAT_EXTENSIBLE; the order of the rules is this project's profile).
use Rattle.std.specs.Prelude.{ℕ, zero, suc, Option, Result}
use Rattle.fv_wav.specs.declared.head.Head.{Head}
use Rattle.fv_wav.specs.declared.head.Format.{Format}
use Rattle.fv_wav.specs.declared.head.Kind.{Kind}
use Rattle.fv_wav.specs.declared.refusal.WaveRefusal.{WaveRefusal}
use Rattle.fv_wav.specs.headline.Reading.{Rest, last_chunk, any_chunk, walk}

-- a chunk of this kind, after its name, and what follows
abbrev pub chunk_at : ℕ → Kind → Option Format → ℕ → Rest → Result Head WaveRefusal
chunk_at zero k seen place r = last_chunk k seen place r
chunk_at (suc room) k seen place r = any_chunk k seen place r (walk room)
