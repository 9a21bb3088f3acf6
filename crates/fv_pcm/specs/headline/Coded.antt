-- Samples as bytes, in the two codings (RIFF WAVE 1991; Sun audio).
use Rattle.std.specs.Prelude.{ℕ, ◌*◌, ◌/◌, ◌-◌, ◌==◌, List, take, drop, flat_map, ℤ, pos, ◌+ℤ◌, ◌-ℤ◌, if◌then◌else◌}
use Rattle.std.specs.Int.{w8, w16, w32, cast_signed, cast_unsigned}
use Rattle.byteorder.specs.Endian.{little_number, little_bytes, big_number, big_bytes, twos_complement}
use Rattle.fv_num.specs.headline.Words.{clamped}
use Rattle.fv_num.specs.headline.Frames.{Frame}
use Rattle.fv_pcm.specs.declared.coding.Coding.{Coding}
use Rattle.fv_pcm.specs.declared.coding.Coding.TheVariants as coding

-- ---- reading

-- the number in the first n bytes: in WAV files the lowest byte is first, in AU files the highest
abbrev pub number_in : Coding → (n : ℕ) → List ℕ → ℕ
number_in coding.Wave n bytes = little_number n bytes
number_in coding.Au n bytes = big_number n bytes

-- the sample that one byte stands for: in WAV files it is stored 128 higher, in AU files in two's complement
abbrev pub of_byte : Coding → ℕ → ℤ
of_byte coding.Wave n = pos n -ℤ pos 128
of_byte coding.Au n = cast_signed w8 n

-- The sample in the first bytes; of more than 8 bits it is in two's complement.
abbrev pub sample_of : Coding → (bits : ℕ) → List ℕ → ℤ
sample_of c bits bytes =
    if bits == 8 then of_byte c (number_in c 1 bytes)
    else if bits == 16 then cast_signed w16 (number_in c 2 bytes)
    else if bits == 24 then twos_complement 3 (number_in c 3 bytes) else cast_signed w32 (number_in c 4 bytes)

-- sample j of these bytes
unfoldable pub sample_at : Coding → (bits : ℕ) → List ℕ → ℕ → ℤ
sample_at c bits bytes j = sample_of c bits (drop (j * (bits / 8)) bytes)

-- ---- writing

-- the number that is stored for a sample, which is clamped to the width
abbrev pub stored_of : Coding → (bits : ℕ) → ℤ → ℤ
stored_of coding.Wave bits x = if bits == 8 then clamped bits x +ℤ pos 128 else clamped bits x
stored_of coding.Au bits x = clamped bits x

-- the lowest n of the four bytes of a number
abbrev pub low_bytes : Coding → (n : ℕ) → ℕ → List ℕ
low_bytes coding.Wave n x = take n (little_bytes 4 x)
low_bytes coding.Au n x = drop (4 - n) (big_bytes 4 x)

-- the bytes of a sample
abbrev pub sample_bytes : Coding → (bits : ℕ) → ℤ → List ℕ
sample_bytes c bits x = low_bytes c (bits / 8) (cast_unsigned w32 (stored_of c bits x))

-- the bytes of a frame, sample after sample
abbrev pub frame_bytes : Coding → (bits : ℕ) → Frame → List ℕ
frame_bytes c bits x = flat_map (sample_bytes c bits) x
