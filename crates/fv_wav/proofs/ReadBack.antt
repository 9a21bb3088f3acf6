-- What is written is read again.
use Rattle.std.proofs.Common.{◌≡◌, ℕ, ◌+◌, ◌*◌, ◌/◌, ◌%◌, ◌^◌, ◌≤◌, ◌<◌, ◌==◌, true, false, List, [], ◌++◌, length, refl, ap, ◌∙◌, arith, ℤ, Ok}
use Rattle.std.specs.Prelude.{Some, pos, flat_map, get_or, codes}
use Rattle.std.proofs.lemmas.List.{take_at, drop_at, length-append}
use Rattle.std.proofs.Math.Nat.{mul_assoc}
use Rattle.std.proofs.lemmas.Bool.{le-leb}
use Rattle.fv_base.specs.declared.limits.TheConstants.{MOST_CHANNELS}
use Rattle.byteorder.specs.Endian.{little_bytes}
use Rattle.byteorder.specs.Numbers.{little_number-reads_back, length-bytes_low_first}
use Rattle.fv_pcm.specs.Words.{is_sample_width, clamped}
use Rattle.fv_pcm.specs.Frames.{table}
use Rattle.fv_wav.specs.declared.head.Format.{Format}
use Rattle.fv_wav.specs.headline.Reading.{rest_of, past, next, number, frame_size, tag_at, sound_at, format_chunk, data_chunk, walk, wave}
use Rattle.fv_wav.specs.headline.Samples.{head_bytes, pad_bytes, data_size, data_limit}
use Rattle.fv_wav.specs.Samples.{sample_bytes, layout_of, frames_in}
use Rattle.fv_wav.specs.Written.{file_bytes, head_of, CanBeWritten}
use Rattle.fv_pcm.specs.declared.coding.Coding.TheVariants as coding
use Rattle.fv_pcm.proofs.lemmas.Widths.{at_width}
use Rattle.fv_pcm.proofs.lemmas.Again.{samples_again}
use Rattle.fv_wav.proofs.Parts.{shape_is, sound_is, fields_plain, format_is, channels_within}

-- ---- the head

past_front : (n p : ℕ) (xs ys : List ℕ) → length xs ≡ n → past n (rest_of p (xs ++ ys)) ≡ Ok (rest_of (p + n) ys)
unfolding past
past_front n p xs ys h = rw (le-leb n (length (xs ++ ys)) (omega (arith, length-append xs ys)), drop_at xs ys n h) refl

next_front : (n p : ℕ) (xs ys : List ℕ) → length xs ≡ n → next n (rest_of p (xs ++ ys)) ≡ Ok (xs, rest_of (p + n) ys)
unfolding next
next_front n p xs ys h = rw (past_front n p xs ys h, take_at xs ys n h) refl

number_front : (n p x : ℕ) (ys : List ℕ) → x < 256 ^ n → number n (rest_of p (little_bytes n x ++ ys)) ≡ Ok (x, rest_of (p + n) ys)
unfolding number
number_front n p x ys h = rw (past_front n p (little_bytes n x) ys (length-bytes_low_first 0 n x), little_number-reads_back n x ys h) refl

itself : (n : ℕ) → (n == n) ≡ true
itself n = grind arith

frame_fits : (channels bits : ℕ) → channels ≤ MOST_CHANNELS → is_sample_width bits ≡ true → frame_size channels bits < 65536
frame_fits channels bits l h = at_width (λ b. frame_size channels b < 65536) bits h (omega arith) (omega arith) (omega arith) (omega arith)

width_fits : (bits : ℕ) → is_sample_width bits ≡ true → bits < 65536
width_fits bits h = at_width (λ b. b < 65536) bits h (omega arith) (omega arith) (omega arith) (omega arith)

-- what a head states that can be written: some channels, a rate of 32 bits, and a width of samples
record IsStated (channels rate bits : ℕ) : Type 0 where
  some : 1 ≤ channels
  few : channels ≤ MOST_CHANNELS
  rated : rate < 2 ^ 32
  wide : is_sample_width bits ≡ true

-- the bytes of a format after its tag, and those after them
abbrev sound_bytes : (channels rate bits : ℕ) → List ℕ → List ℕ
sound_bytes channels rate bits ys =
    little_bytes 2 channels ++ (little_bytes 4 rate ++ (little_bytes 4 ((rate * frame_size channels bits) % 2 ^ 32)
    ++ (little_bytes 2 (frame_size channels bits) ++ (little_bytes 2 bits ++ ys))))

sound_read : (channels rate bits : ℕ) (ys : List ℕ) → IsStated channels rate bits
    → sound_at (rest_of 22 (sound_bytes channels rate bits ys)) ≡ Ok (record { channels = channels; rate = rate; bits = bits }, rest_of 36 ys)
sound_read channels rate bits ys s =
    sound_is channels rate bits _ _ _ _ _ (number_front 2 22 channels _ (let f = s.few in omega arith)) (channels_within channels s.some s.few)
    (number_front 4 24 rate _ s.rated)
    (shape_is channels (frame_size channels bits) bits _ _ _ _ _ (past_front 4 28 (little_bytes 4 ((rate * frame_size channels bits) % 2 ^ 32)) _ refl)
    (number_front 2 32 (frame_size channels bits) _ (frame_fits channels bits s.few s.wide)) (number_front 2 34 bits _ (width_fits bits s.wide)) s.wide
    (itself (frame_size channels bits)) refl)
    refl

tag_read : (ys : List ℕ) → tag_at 16 (rest_of 20 (little_bytes 2 1 ++ ys)) ≡ Ok (1, rest_of 22 ys)
unfolding tag_at
tag_read ys = rw (number_front 2 20 1 ys (omega arith)) refl

format_read : (channels rate bits : ℕ) (ys : List ℕ) → IsStated channels rate bits
    → format_chunk (rest_of 16 (little_bytes 4 16 ++ (little_bytes 2 1 ++ sound_bytes channels rate bits ys)))
    ≡ Ok (record { channels = channels; rate = rate; bits = bits }, rest_of 36 ys)
format_read channels rate bits ys s =
    format_is 16 0 _ _ _ _ _ _ (number_front 4 16 16 _ (omega arith))
    (fields_plain 16 1 _ _ _ _ _ (tag_read _) (sound_read channels rate bits ys s) refl refl)
    refl (past_front 0 36 [] ys refl) refl

data_read : (format : Format) (size : ℕ) (ys : List ℕ) → size ≤ data_limit
    → data_chunk (Some format) 36 (rest_of 40 (little_bytes 4 size ++ ys))
    ≡ Ok (record { channels = format.channels; rate = format.rate; bits = format.bits; data_bytes = size; place = 44 })
unfolding data_chunk
data_read format size ys h = rw (number_front 4 40 size ys (omega arith), known size h) refl
  where
    known : (size : ℕ) → size ≤ data_limit → (size == 4294967295) ≡ false
    known size h = grind arith

head_read : (channels rate bits size : ℕ) (ys : List ℕ) → IsStated channels rate bits → size ≤ data_limit
    → wave (head_bytes channels rate bits size ++ ys) ≡ Ok (record { channels = channels; rate = rate; bits = bits; data_bytes = size; place = 44 })
unfolding wave walk
head_read channels rate bits size ys s h =
    rw (
      next_front 12 0 (codes "RIFF" ++ little_bytes 4 (36 + size + size % 2) ++ codes "WAVE") _ refl,
      next_front 4 12 (codes "fmt ") _ refl,
      format_read channels rate bits (codes "data" ++ little_bytes 4 size ++ ys) s,
      next_front 4 36 (codes "data") _ refl,
      data_read (record { channels = channels; rate = rate; bits = bits }) size ys h,
    ) refl

-- ---- the whole file

pub file_read : (channels rate bits frames : ℕ) (xs : List ℤ) → CanBeWritten channels rate bits frames xs
    → wave (file_bytes channels rate bits xs) ≡ Ok (head_of channels rate bits frames)
file_read channels rate bits frames xs w =
    let size : length xs * (bits / 8) ≡ data_size channels bits frames = ap (λ (n : ℕ). n * (bits / 8)) w.whole ∙ mul_assoc frames channels (bits / 8) in
    ap (λ (n : ℕ). wave (head_bytes channels rate bits n ++ flat_map (sample_bytes bits) xs ++ pad_bytes n)) size
    ∙ head_read channels rate bits (data_size channels bits frames)
    (flat_map (sample_bytes bits) xs ++ pad_bytes (data_size channels bits frames))
    (record { some = w.some; few = w.few; rated = w.rated; wide = w.bits_are }) w.stated

pub samples_read : (channels rate bits frames : ℕ) (xs : List ℤ) → CanBeWritten channels rate bits frames xs
    → frames_in (head_of channels rate bits frames) (file_bytes channels rate bits xs)
    ≡ table frames (λ t. table channels (λ i. clamped bits (get_or xs (t * channels + i) (pos 0))))
samples_read channels rate bits frames xs w =
    let size = length xs * (bits / 8) in
    samples_again coding.Wave (layout_of (head_of channels rate bits frames)) frames xs (head_bytes channels rate bits size) (pad_bytes size)
    (record { some = w.some; wide = w.bits_are; whole = w.whole; size = refl; place = refl })
