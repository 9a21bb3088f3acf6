-- The head of a WAV file, as its bytes come: each rule is tried as soon as the bytes that it speaks of are there (RIFF WAVE
-- 1991; WAVE_FORMAT_EXTENSIBLE; the order of the rules is this project's profile).
use Rattle.std.specs.Prelude.{ℕ, zero, suc, ◌+◌, ◌-◌, ◌%◌, ◌^◌, Bool, true, false, not, ◌&&◌, ◌||◌, ◌==◌, nat_le, List, [], ◌∷◌}
use Rattle.std.specs.Prelude.{length, take, drop, Option, Some, None, Result, Ok, Err, codes, bytes_eq, if◌then◌else◌}
use Rattle.fv_base.specs.declared.limits.TheConstants.{MOST_CHANNELS, MOST_CHUNKS}
use Rattle.byteorder.specs.Endian.{little_number}
use Rattle.fv_pcm.specs.Words.{is_sample_width}
pub use Rattle.fv_pcm.specs.headline.Sizes.{frame_size}
use Rattle.fv_wav.specs.declared.head.Head.{Head}
use Rattle.fv_wav.specs.declared.head.Format.{Format}
use Rattle.fv_wav.specs.declared.head.Kind.{Kind}
use Rattle.fv_wav.specs.declared.head.Kind.TheVariants as kind
use Rattle.fv_wav.specs.declared.refusal.WaveRefusal.{WaveRefusal}
use Rattle.fv_wav.specs.declared.refusal.WaveRefusal.TheVariants.{NotWave, WaveTruncated, WaveFormat, WaveChunks}

-- where a reading stands: how many bytes are before it, and those from there on
pub record Rest : Type 0 where
  pub place : ℕ
  pub bytes : List ℕ

-- a reading that stands at this place, before these bytes
abbrev pub rest_of : ℕ → List ℕ → Rest
rest_of place bytes = record { place = place; bytes = bytes }

-- what is read with what was read before, or the first refusal
infixl 10 ◌>>=◌
abbrev pub ◌>>=◌ : {A B : Type 0} → Result A WaveRefusal → (A → Result B WaveRefusal) → Result B WaveRefusal
◌>>=◌ (Ok x) f = f x
◌>>=◌ (Err e) f = Err e

-- a rule of the field at this place
abbrev pub rule : Bool → ℕ → Result (Unit {0}) WaveRefusal
rule true place = Ok tt
rule false place = Err (WaveFormat place)

-- the reading after the next n bytes where the test says that they are there, else the file ends before them
abbrev pub behind : Bool → ℕ → Rest → Result Rest WaveRefusal
behind true n r = Ok (rest_of (r.place + n) (drop n r.bytes))
behind false n r = Err (WaveTruncated (r.place + length r.bytes))

-- the reading after the next n bytes, or the file ends before
unfoldable pub past : ℕ → Rest → Result Rest WaveRefusal
past n r = behind (nat_le n (length r.bytes)) n r

-- the next n bytes
unfoldable pub next : ℕ → Rest → Result (List ℕ × Rest) WaveRefusal
next n r = past n r >>= λ x. Ok (take n r.bytes, x)

-- the number in the next n bytes, the lowest first
unfoldable pub number : ℕ → Rest → Result (ℕ × Rest) WaveRefusal
number n r = past n r >>= λ x. Ok (little_number n r.bytes, x)

-- the tags of plain samples, and of those whose format is named by a sub-format
abbrev pub plain_tag : ℕ
plain_tag = 1

-- the tag of samples whose format is named by a sub-format
abbrev pub extensible_tag : ℕ
extensible_tag = 65534

-- the sub-format of plain samples
abbrev pub plain_samples : List ℕ
plain_samples = 1 ∷ 0 ∷ 0 ∷ 0 ∷ 0 ∷ 0 ∷ 16 ∷ 0 ∷ 128 ∷ 0 ∷ 0 ∷ 170 ∷ 0 ∷ 56 ∷ 155 ∷ 113 ∷ []

-- a tag that a file may have: that of plain samples, or that of a sub-format
abbrev pub is_tag : ℕ → Bool
is_tag tag = (tag == plain_tag) || (tag == extensible_tag)

-- the fewest bytes of a format with this tag
abbrev pub least_size : ℕ → ℕ
least_size tag = if tag == extensible_tag then 40 else 16

-- a chunk's size is even in the file: one byte more stands after an odd one
abbrev pub padded : ℕ → ℕ
padded size = size + size % 2

-- a number of channels that a file may have
abbrev pub is_channels : ℕ → Bool
is_channels n = nat_le 1 n && nat_le n MOST_CHANNELS

-- the tag of a format of this size, whose body begins here
unfoldable pub tag_at : ℕ → Rest → Result (ℕ × Rest) WaveRefusal
tag_at size r =
    rule (nat_le 16 size) (r.place - 4) >>= λ _. number 2 r >>= λ tag. rule (is_tag tag.0) r.place
    >>= λ _. rule (nat_le (least_size tag.0) size) (r.place - 4) >>= λ _. Ok tag

-- the fields after the rate: the byte rate, which may be any, and the sizes of a frame and of a sample
unfoldable pub shape_at : (channels : ℕ) → Rest → Result (ℕ × Rest) WaveRefusal
shape_at channels r =
    past 4 r >>= λ at. number 2 at >>= λ align. number 2 align.1
    >>= λ bits. rule (is_sample_width bits.0) (r.place + 6) >>= λ _. rule (align.0 == frame_size channels bits.0) (r.place + 4) >>= λ _. Ok bits

-- the fields after the tag
unfoldable pub sound_at : Rest → Result (Format × Rest) WaveRefusal
sound_at r =
    number 2 r >>= λ channels. rule (is_channels channels.0) r.place >>= λ _. number 4 channels.1
    >>= λ rate. shape_at channels.0 rate.1 >>= λ bits. Ok (record { channels = channels.0; rate = rate.0; bits = bits.0 }, bits.1)

-- what only the extensible format has: its size, its valid bits and its mask, which may be any, and its sub-format
unfoldable pub extension : Bool → Rest → Result Rest WaveRefusal
extension false r = Ok r
extension true r = past 8 r >>= λ at. next 16 at >>= λ sub. rule (bytes_eq sub.0 plain_samples) at.place >>= λ _. Ok sub.1

-- The body of a `fmt ` chunk of this size, up to the last field that is needed.
unfoldable pub fields : ℕ → Rest → Result (Format × Rest) WaveRefusal
fields size r = tag_at size r >>= λ tag. sound_at tag.1 >>= λ sound. extension (tag.0 == extensible_tag) sound.1 >>= λ end. Ok (sound.0, end)

-- after the body of a chunk that begins here, with the byte that makes it even
unfoldable pub behind_body : (size start : ℕ) → Rest → Result Rest WaveRefusal
behind_body size start r = past (padded size - (r.place - start)) r

-- a `fmt ` chunk, after its name
unfoldable pub format_chunk : Rest → Result (Format × Rest) WaveRefusal
format_chunk r = number 4 r >>= λ size. fields size.0 size.1 >>= λ format. behind_body size.0 size.1.place format.1 >>= λ end. Ok (format.0, end)

-- a chunk that is passed over, after its name
unfoldable pub other_chunk : Rest → Result Rest WaveRefusal
other_chunk r = number 4 r >>= λ size. past (padded size.0) size.1

-- the size of `data` that says that its length was not known
abbrev pub unknown_size : ℕ
unknown_size = 2 ^ 32 - 1

-- a `data` chunk whose name stands at this place, after the name
unfoldable pub data_chunk : Option Format → ℕ → Rest → Result Head WaveRefusal
data_chunk None place r = Err (WaveFormat place)
data_chunk (Some format) place r =
    number 4 r >>= λ size. rule (not (size.0 == unknown_size)) r.place
    >>= λ _. Ok (record { channels = format.channels; rate = format.rate; bits = format.bits; data_bytes = size.0; place = size.1.place })

-- the kind of a chunk of this name
abbrev pub kind_of : List ℕ → Kind
kind_of name = if bytes_eq name (codes "data") then kind.Data else if bytes_eq name (codes "fmt ") then kind.Format else kind.Other

-- a chunk where no more may stand before `data`
abbrev pub last_chunk : Kind → Option Format → ℕ → Rest → Result Head WaveRefusal
last_chunk kind.Data seen place r = data_chunk seen place r
last_chunk kind.Format (Some format) place r = Err (WaveFormat place)
last_chunk kind.Format None place r = Err (WaveChunks place)
last_chunk kind.Other seen place r = Err (WaveChunks place)

-- a chunk where more chunks may stand before `data`, and what follows
abbrev pub any_chunk : Kind → Option Format → ℕ → Rest → (Option Format → Rest → Result Head WaveRefusal) → Result Head WaveRefusal
any_chunk kind.Data seen place r on = data_chunk seen place r
any_chunk kind.Format (Some format) place r on = Err (WaveFormat place)
any_chunk kind.Format None place r on = format_chunk r >>= λ format. on (Some format.0) format.1
any_chunk kind.Other seen place r on = other_chunk r >>= λ end. on seen end

-- The chunks from here on, where this format was seen. The number is how many may still stand before `data`.
unfoldable pub walk : ℕ → Option Format → Rest → Result Head WaveRefusal
walk zero seen r = next 4 r >>= λ name. last_chunk (kind_of name.0) seen r.place name.1
walk (suc room) seen r = next 4 r >>= λ name. any_chunk (kind_of name.0) seen r.place name.1 (walk room)

-- the first twelve bytes are those of a RIFF file of the form WAVE; its size may be any
abbrev pub is_form : List ℕ → Bool
is_form bytes = bytes_eq (take 4 bytes) (codes "RIFF") && bytes_eq (drop 8 bytes) (codes "WAVE")

-- the rule of the first twelve bytes
abbrev pub form : Bool → Result (Unit {0}) WaveRefusal
form true = Ok tt
form false = Err (NotWave 0)

-- the most chunks before `data`
abbrev pub most_chunks : ℕ
most_chunks = MOST_CHUNKS

-- The head of a file, or why it has none.
unfoldable pub wave : List ℕ → Result Head WaveRefusal
wave bytes = next 12 (rest_of 0 bytes) >>= λ start. form (is_form start.0) >>= λ _. walk most_chunks None start.1
