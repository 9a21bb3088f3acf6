-- The outcome of an AU file: its head, or the first rule that fails, by cases (Sun audio; this project's profile).
use Rattle.std.specs.Prelude.{◌≡◌, ℕ, ◌<◌, ◌≤◌, List, length, Result, Ok, Err}
use Rattle.fv_base.specs.declared.limits.TheConstants.{MOST_CHANNELS}
use Rattle.fv_au.specs.declared.head.AuHead.{AuHead}
use Rattle.fv_au.specs.declared.refusal.AuRefusal.{AuRefusal}
use Rattle.fv_au.specs.declared.refusal.AuRefusal.TheVariants.{AuFormat, AuTruncated}
use Rattle.fv_au.specs.headline.Reading.{field, bits_of, stated, au}

-- this many bytes are there
abbrev pub HasBytes : ℕ → List ℕ → Type 0
HasBytes n bytes = n ≤ length bytes

-- the offset is there, and the head fits before it
pub record HasOffset (bytes : List ℕ) : Type 0 where
  pub there : HasBytes 8 bytes
  pub high : 24 ≤ field 4 bytes

-- the encoding is that of signed linear samples of 8, 16, 24 or 32 bits
abbrev pub IsEncoding : ℕ → Type 0
IsEncoding e = (2 ≤ e) × (e ≤ 5)

-- the encoding is there, and it is read
pub record HasEncoding (bytes : List ℕ) : Type 0 where
  pub offset : HasOffset bytes
  pub there : HasBytes 16 bytes
  pub is : IsEncoding (field 12 bytes)

-- a frame may have this many samples
abbrev pub AreChannels : ℕ → Type 0
AreChannels n = (1 ≤ n) × (n ≤ MOST_CHANNELS)

-- the whole head is there, and it is read
pub record HasChannels (bytes : List ℕ) : Type 0 where
  pub encoding : HasEncoding bytes
  pub there : HasBytes 24 bytes
  pub are : AreChannels (field 20 bytes)

-- what its fields say
abbrev pub fields_of : List ℕ → AuHead
fields_of bytes = record {
  channels = field 20 bytes;
  rate = field 16 bytes;
  bits = bits_of (field 12 bytes);
  data_bytes = stated (field 8 bytes);
  offset = field 4 bytes;
}

-- What a file comes to: where it first ends too early or breaks a rule, or its head.
pub data IsAuOutcome (bytes : List ℕ) : Result AuHead AuRefusal → Type 0 where
  no_offset : length bytes < 8 → IsAuOutcome bytes (Err (AuTruncated (length bytes)))
  low_offset : HasBytes 8 bytes → field 4 bytes < 24 → IsAuOutcome bytes (Err (AuFormat 4))
  no_encoding : HasOffset bytes → length bytes < 16 → IsAuOutcome bytes (Err (AuTruncated (length bytes)))
  other_encoding : HasOffset bytes → HasBytes 16 bytes → (IsEncoding (field 12 bytes) → ⊥) → IsAuOutcome bytes (Err (AuFormat 12))
  no_channels : HasEncoding bytes → length bytes < 24 → IsAuOutcome bytes (Err (AuTruncated (length bytes)))
  other_channels : HasEncoding bytes → HasBytes 24 bytes → (AreChannels (field 20 bytes) → ⊥) → IsAuOutcome bytes (Err (AuFormat 20))
  cut_gap : HasChannels bytes → length bytes < field 4 bytes → IsAuOutcome bytes (Err (AuTruncated (length bytes)))
  samples : HasChannels bytes → HasBytes (field 4 bytes) bytes → IsAuOutcome bytes (Ok (fields_of bytes))

-- Each file has one outcome: a head, or one refusal at one place.
abbrev pub HasOneAuOutcome : Type 0
HasOneAuOutcome =
    (bytes : List ℕ) → IsAuOutcome bytes (au bytes) × ((outcome : Result AuHead AuRefusal) → IsAuOutcome bytes outcome → outcome ≡ au bytes)

-- A file that ends too early is refused at its length.
abbrev pub AuEndsAtItsLength : Type 0
AuEndsAtItsLength = (bytes : List ℕ) (place : ℕ) → au bytes ≡ Err (AuTruncated place) → place ≡ length bytes
