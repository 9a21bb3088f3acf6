-- What is written is read again.
use Rattle.std.proofs.Common.{◌≡◌, ℕ, ◌*◌, ◌/◌, ◌^◌, ◌≤◌, ◌<◌, ◌==◌, true, false, List, []}
use Rattle.std.proofs.Common.{◌++◌, length, refl, sym, ap, ◌∙◌, arith, ℤ, Ok, length-append}
use Rattle.std.specs.Prelude.{Some, flat_map}
use Rattle.std.proofs.Math.Nat.{mul_assoc}
use Rattle.std.proofs.lemmas.List.{append-nil}
use Rattle.std.proofs.lemmas.Bool.{le-leb}
use Rattle.fv_base.specs.declared.limits.TheConstants.{MOST_CHANNELS}
use Rattle.byteorder.specs.Endian.{big_bytes}
use Rattle.byteorder.specs.Numbers.{big_number-reads_back}
use Rattle.fv_pcm.specs.Words.{is_sample_width}
use Rattle.fv_pcm.specs.declared.coding.Coding.TheVariants.{Au}
use Rattle.fv_pcm.specs.headline.Coded.{sample_bytes}
use Rattle.fv_pcm.specs.headline.Sizes.{data_size, data_limit}
use Rattle.fv_pcm.specs.Sizes.{frames_in}
use Rattle.fv_pcm.proofs.lemmas.Widths.{at_width}
use Rattle.fv_pcm.proofs.lemmas.Again.{samples_again}
use Rattle.fv_wav.specs.Written.{CanBeWritten}
use Rattle.fv_au.specs.headline.Reading.{au, head_of, head_bytes, encoding_of, is_channels, field}
use Rattle.fv_au.specs.Reading.{layout_of}
use Rattle.fv_au.specs.Written.{file_bytes, head_written, IsAuReadBack}
use Rattle.fv_au.proofs.Heads.{said, head_long, head_whole}

channels_within : (channels : ℕ) → 1 ≤ channels → channels ≤ MOST_CHANNELS → is_channels channels ≡ true
channels_within channels a b = rw (le-leb 1 channels a, le-leb channels MOST_CHANNELS b) refl

known : (size : ℕ) → size ≤ data_limit → (size == 4294967295) ≡ false
known size h = grind arith

encoding_fits : (bits : ℕ) → is_sample_width bits ≡ true → encoding_of bits < 256 ^ 4
encoding_fits bits h = at_width (λ b. encoding_of b < 256 ^ 4) bits h (omega arith) (omega arith) (omega arith) (omega arith)

-- what the fields that are written say
fields_said : (channels rate bits size : ℕ) → is_sample_width bits ≡ true → 1 ≤ channels → channels ≤ MOST_CHANNELS → size ≤ data_limit
    → said 24 size (encoding_of bits) rate channels ≡ Ok (record { channels = channels; rate = rate; bits = bits; data_bytes = Some size; offset = 24 })
fields_said channels rate bits size h some few stated =
    at_width (λ b. said 24 size (encoding_of b) rate channels ≡ Ok (record { channels = channels; rate = rate; bits = b; data_bytes = Some size; offset = 24 }))
    bits h
    (rw (channels_within channels some few, known size stated) refl) (rw (channels_within channels some few, known size stated) refl)
    (rw (channels_within channels some few, known size stated) refl) (rw (channels_within channels some few, known size stated) refl)

head_again : (channels rate bits size : ℕ) (ys : List ℕ) → is_sample_width bits ≡ true → 1 ≤ channels → channels ≤ MOST_CHANNELS → rate < 2 ^ 32
    → size ≤ data_limit
    → head_of (head_bytes channels rate bits size ++ ys) ≡ Ok (record { channels = channels; rate = rate; bits = bits; data_bytes = Some size; offset = 24 })
head_again channels rate bits size ys h some few rated stated =
    let file = head_bytes channels rate bits size ++ ys in
    let sized : field 8 file ≡ size =
    big_number-reads_back 4 size (big_bytes 4 (encoding_of bits) ++ big_bytes 4 rate ++ big_bytes 4 channels ++ ys) (omega arith) in
    let coded : field 12 file ≡ encoding_of bits =
    big_number-reads_back 4 (encoding_of bits) (big_bytes 4 rate ++ big_bytes 4 channels ++ ys) (encoding_fits bits h) in
    let paced : field 16 file ≡ rate = big_number-reads_back 4 rate (big_bytes 4 channels ++ ys) (omega arith) in
    let wide : field 20 file ≡ channels = big_number-reads_back 4 channels ys (omega arith) in
    head_long file (omega (arith, length-append (head_bytes channels rate bits size) ys))
    ∙ ap (λ s. said 24 s (field 12 file) (field 16 file) (field 20 file)) sized
    ∙ ap (λ e. said 24 size e (field 16 file) (field 20 file)) coded
    ∙ ap (λ r. said 24 size (encoding_of bits) r (field 20 file)) paced
    ∙ ap (λ c. said 24 size (encoding_of bits) rate c) wide
    ∙ fields_said channels rate bits size h some few stated

file_read : (channels rate bits frames : ℕ) (xs : List ℤ) → CanBeWritten channels rate bits frames xs
    → au (file_bytes channels rate bits xs) ≡ Ok (head_written channels rate bits frames)
file_read channels rate bits frames xs w =
    let size : length xs * (bits / 8) ≡ data_size channels bits frames = ap (λ (n : ℕ). n * (bits / 8)) w.whole ∙ mul_assoc frames channels (bits / 8) in
    let stored = flat_map (sample_bytes Au bits) xs in
    ap (λ (n : ℕ). au (head_bytes channels rate bits n ++ stored)) size
    ∙ head_whole (head_bytes channels rate bits (data_size channels bits frames) ++ stored) (head_written channels rate bits frames)
    (head_again channels rate bits (data_size channels bits frames) stored w.bits_are w.some w.few w.rated w.stated)
    (omega (arith, length-append (head_bytes channels rate bits (data_size channels bits frames)) stored))

pub written_again : IsAuReadBack
written_again channels rate bits frames xs w = (
  refl,
  file_read channels rate bits frames xs w,
  ap (λ ys. frames_in Au (layout_of (head_written channels rate bits frames) (data_size channels bits frames))
      (head_bytes channels rate bits (length xs * (bits / 8)) ++ ys)) (sym (append-nil (flat_map (sample_bytes Au bits) xs)))
      ∙ samples_again Au (layout_of (head_written channels rate bits frames) (data_size channels bits frames)) frames xs
      (head_bytes channels rate bits (length xs * (bits / 8))) []
      (record { some = w.some; wide = w.bits_are; whole = w.whole; size = refl; place = refl }),
)
