-- The head of an AU file (Sun audio; the ranges and the order of the rules are this project's profile).
use Rattle.std.specs.Prelude.{ℕ, ◌+◌, ◌*◌, ◌/◌, ◌-◌, ◌^◌, Bool, ◌&&◌, ◌==◌, nat_le, nat_lt, List, ◌++◌, length, drop}
use Rattle.std.specs.Prelude.{Option, Some, None, Result, Ok, Err, codes, if◌then◌else◌}
use Rattle.fv_base.specs.declared.limits.TheConstants.{MOST_CHANNELS}
use Rattle.byteorder.specs.Endian.{big_number, big_bytes}
use Rattle.fv_au.specs.declared.head.AuHead.{AuHead}
use Rattle.fv_au.specs.declared.refusal.AuRefusal.{AuRefusal}
use Rattle.fv_au.specs.declared.refusal.AuRefusal.TheVariants.{AuFormat, AuTruncated}

-- the number in four bytes, the highest first
abbrev pub field : (place : ℕ) → List ℕ → ℕ
field place bytes = big_number 4 (drop place bytes)

-- the encodings of signed linear samples of 8, 16, 24 and 32 bits are 2, 3, 4 and 5
abbrev pub is_encoding : ℕ → Bool
is_encoding e = nat_le 2 e && nat_le e 5

-- the bits of a sample in this encoding
abbrev pub bits_of : (encoding : ℕ) → ℕ
bits_of e = (e - 1) * 8

-- the encoding of samples of this many bits
abbrev pub encoding_of : (bits : ℕ) → ℕ
encoding_of bits = bits / 8 + 1

-- a number of channels that a file may have
abbrev pub is_channels : ℕ → Bool
is_channels n = nat_le 1 n && nat_le n MOST_CHANNELS

-- the size that says that the length was not known
abbrev pub unknown : ℕ
unknown = 2 ^ 32 - 1

-- the bytes of samples that a head states, if their length was known
abbrev pub stated : ℕ → Option ℕ
stated size = if size == unknown then None else Some size

-- The head in these bytes, each rule as soon as its bytes are there; or the first that fails.
abbrev pub head_of : List ℕ → Result AuHead AuRefusal
head_of bytes =
    if nat_lt (length bytes) 8 then Err (AuTruncated (length bytes)) else
    (if nat_lt (field 4 bytes) 24 then Err (AuFormat 4) else
    (if nat_lt (length bytes) 16 then Err (AuTruncated (length bytes)) else
    (if is_encoding (field 12 bytes) then
    (if nat_lt (length bytes) 24 then Err (AuTruncated (length bytes)) else
    (if is_channels (field 20 bytes) then
    Ok (record {
      channels = field 20 bytes;
      rate = field 16 bytes;
      bits = bits_of (field 12 bytes);
      data_bytes = stated (field 8 bytes);
      offset = field 4 bytes;
    })
    else Err (AuFormat 20)))
    else Err (AuFormat 12))))

-- the head where all of its bytes are there, up to the samples; else the file ends too early
abbrev pub behind : List ℕ → AuHead → Result AuHead AuRefusal
behind bytes head = if nat_lt (length bytes) head.offset then Err (AuTruncated (length bytes)) else Ok head

-- a head that was read of these bytes, if the whole head is there; or why none was
abbrev pub au_in : List ℕ → Result AuHead AuRefusal → Result AuHead AuRefusal
au_in bytes (Ok head) = behind bytes head
au_in bytes (Err e) = Err e

-- The head of a file, or why it has none.
abbrev pub au : List ℕ → Result AuHead AuRefusal
au bytes = au_in bytes (head_of bytes)

-- ---- samples

-- the 24 bytes that stand before size bytes of samples
abbrev pub head_bytes : (channels rate bits size : ℕ) → List ℕ
head_bytes channels rate bits size =
    codes ".snd" ++ big_bytes 4 24 ++ big_bytes 4 size ++ big_bytes 4 (encoding_of bits) ++ big_bytes 4 rate ++ big_bytes 4 channels
