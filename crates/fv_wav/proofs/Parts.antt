-- How a reading of several parts begins.
use Rattle.std.proofs.Common.{◌≡◌, ℕ, zero, suc, ◌+◌, ◌-◌, ◌≤◌, ◌<◌, ◌==◌, List, true, false, refl}
use Rattle.std.proofs.lemmas.Bool.{le-leb, lt-leb}
use Rattle.std.specs.Prelude.{Option, Ok, Err, bytes_eq}
use Rattle.fv_base.specs.declared.limits.TheConstants.{MOST_CHANNELS}
use Rattle.fv_pcm.specs.Words.{is_sample_width}
use Rattle.fv_wav.specs.headline.Reading.{◌>>=◌, Rest, past, number, tag_at, shape_at, sound_at, extension, fields, behind_body, format_chunk, other_chunk}
use Rattle.fv_wav.specs.headline.Reading.{walk, next, kind_of, is_channels, frame_size, extensible_tag, plain_samples, padded}
use Rattle.fv_wav.specs.inner.Reading.{chunk_at}
use Rattle.fv_wav.specs.declared.head.Format.{Format}
use Rattle.fv_wav.specs.declared.refusal.WaveRefusal.{WaveRefusal}
use Rattle.fv_wav.specs.declared.refusal.WaveRefusal.TheVariants.{WaveFormat}

-- the walk reads a name, and then the chunk of that name
pub walk_is : (room : ℕ) (seen : Option Format) (r : Rest) → walk room seen r ≡ (next 4 r >>= λ name. chunk_at room (kind_of name.0) seen r.place name.1)
unfolding walk
walk_is zero seen r = refl
walk_is (suc room) seen r = refl

-- the size of a format that is too short for any tag
pub tag_short : (size : ℕ) (r : Rest) → size < 16 → tag_at size r ≡ Err (WaveFormat (r.place - 4))
unfolding tag_at
tag_short size r h = rw (lt-leb 16 size h) refl

-- ---- the fields after the rate, one exit after another

pub shape_pass : (channels : ℕ) (r : Rest) (e : WaveRefusal) → past 4 r ≡ Err e → shape_at channels r ≡ Err e
unfolding shape_at
shape_pass channels r e a = rw a refl

pub shape_align : (channels : ℕ) (r r1 : Rest) (e : WaveRefusal) → past 4 r ≡ Ok r1 → number 2 r1 ≡ Err e → shape_at channels r ≡ Err e
unfolding shape_at
shape_align channels r r1 e a b = rw (a, b) refl

pub shape_bits : (channels align : ℕ) (r r1 r2 : Rest) (e : WaveRefusal) → past 4 r ≡ Ok r1 → number 2 r1 ≡ Ok (align, r2) → number 2 r2 ≡ Err e
    → shape_at channels r ≡ Err e
unfolding shape_at
shape_bits channels align r r1 r2 e a b c = rw (a, b, c) refl

pub shape_width : (channels align bits : ℕ) (r r1 r2 r3 : Rest) → past 4 r ≡ Ok r1 → number 2 r1 ≡ Ok (align, r2) → number 2 r2 ≡ Ok (bits, r3)
    → is_sample_width bits ≡ false
    → shape_at channels r ≡ Err (WaveFormat (r.place + 6))
unfolding shape_at
shape_width channels align bits r r1 r2 r3 a b c w = rw (a, b, c, w) refl

pub shape_size : (channels align bits : ℕ) (r r1 r2 r3 : Rest) → past 4 r ≡ Ok r1 → number 2 r1 ≡ Ok (align, r2) → number 2 r2 ≡ Ok (bits, r3)
    → is_sample_width bits ≡ true
    → (align == frame_size channels bits) ≡ false → shape_at channels r ≡ Err (WaveFormat (r.place + 4))
unfolding shape_at
shape_size channels align bits r r1 r2 r3 a b c w s = rw (a, b, c, w, s) refl

pub shape_is : (channels align bits : ℕ) (r r1 r2 r3 r4 : Rest) → past 4 r ≡ Ok r1 → number 2 r1 ≡ Ok (align, r2) → number 2 r2 ≡ Ok (bits, r3)
    → is_sample_width bits ≡ true
    → (align == frame_size channels bits) ≡ true → r3 ≡ r4 → shape_at channels r ≡ Ok (bits, r4)
unfolding shape_at
shape_is channels align bits r r1 r2 r3 r4 a b c w s e = rw (a, b, c, w, s, e) refl

-- ---- the fields after the tag

pub sound_rate : (channels : ℕ) (r r1 : Rest) (e : WaveRefusal) → number 2 r ≡ Ok (channels, r1) → is_channels channels ≡ true → number 4 r1 ≡ Err e
    → sound_at r ≡ Err e
unfolding sound_at
sound_rate channels r r1 e a h b = rw (a, h, b) refl

pub sound_shape : (channels rate : ℕ) (r r1 r2 : Rest) (e : WaveRefusal) → number 2 r ≡ Ok (channels, r1) → is_channels channels ≡ true
    → number 4 r1 ≡ Ok (rate, r2)
    → shape_at channels r2 ≡ Err e → sound_at r ≡ Err e
unfolding sound_at
sound_shape channels rate r r1 r2 e a h b c = rw (a, h, b, c) refl

pub sound_is : (channels rate bits : ℕ) (r r1 r2 r3 r4 : Rest) → number 2 r ≡ Ok (channels, r1) → is_channels channels ≡ true → number 4 r1 ≡ Ok (rate, r2)
    → shape_at channels r2 ≡ Ok (bits, r3) → r3 ≡ r4 → sound_at r ≡ Ok (record { channels = channels; rate = rate; bits = bits }, r4)
unfolding sound_at
sound_is channels rate bits r r1 r2 r3 r4 a h b c e = rw (a, h, b, c, e) refl

-- ---- the body

pub fields_tag : (size : ℕ) (r : Rest) (e : WaveRefusal) → tag_at size r ≡ Err e → fields size r ≡ Err e
unfolding fields
fields_tag size r e a = rw a refl

pub fields_sound : (size tag : ℕ) (r r1 : Rest) (e : WaveRefusal) → tag_at size r ≡ Ok (tag, r1) → sound_at r1 ≡ Err e → fields size r ≡ Err e
unfolding fields
fields_sound size tag r r1 e a b = rw (a, b) refl

pub fields_extension : (size tag : ℕ) (format : Format) (r r1 r2 : Rest) (e : WaveRefusal) → tag_at size r ≡ Ok (tag, r1) → sound_at r1 ≡ Ok (format, r2)
    → (tag == extensible_tag) ≡ true
    → extension true r2 ≡ Err e → fields size r ≡ Err e
unfolding fields
fields_extension size tag format r r1 r2 e a b t c = rw (a, b, t, c) refl

pub fields_plain : (size tag : ℕ) (format : Format) (r r1 r2 r3 : Rest) → tag_at size r ≡ Ok (tag, r1) → sound_at r1 ≡ Ok (format, r2)
    → (tag == extensible_tag) ≡ false → r2 ≡ r3
    → fields size r ≡ Ok (format, r3)
unfolding fields extension
fields_plain size tag format r r1 r2 r3 a b t e = rw (a, b, t, e) refl

pub fields_extended : (size tag : ℕ) (format : Format) (r r1 r2 r3 r4 : Rest) → tag_at size r ≡ Ok (tag, r1) → sound_at r1 ≡ Ok (format, r2)
    → (tag == extensible_tag) ≡ true
    → extension true r2 ≡ Ok r3 → r3 ≡ r4 → fields size r ≡ Ok (format, r4)
unfolding fields
fields_extended size tag format r r1 r2 r3 r4 a b t c e = rw (a, b, t, c, e) refl

-- ---- whole chunks

pub format_fields : (size : ℕ) (r r1 : Rest) (e : WaveRefusal) → number 4 r ≡ Ok (size, r1) → fields size r1 ≡ Err e → format_chunk r ≡ Err e
unfolding format_chunk
format_fields size r r1 e a b = rw (a, b) refl

pub format_end : (size n : ℕ) (format : Format) (r r1 r2 : Rest) (e : WaveRefusal) → number 4 r ≡ Ok (size, r1) → fields size r1 ≡ Ok (format, r2)
    → padded size - (r2.place - r1.place) ≡ n → past n r2 ≡ Err e → format_chunk r ≡ Err e
unfolding format_chunk behind_body
format_end size n format r r1 r2 e a b m c = rw (a, b, m, c) refl

pub format_is : (size n : ℕ) (format : Format) (r r1 r2 r3 r4 : Rest) → number 4 r ≡ Ok (size, r1) → fields size r1 ≡ Ok (format, r2)
    → padded size - (r2.place - r1.place) ≡ n → past n r2 ≡ Ok r3 → r3 ≡ r4 → format_chunk r ≡ Ok (format, r4)
unfolding format_chunk behind_body
format_is size n format r r1 r2 r3 r4 a b m c e = rw (a, b, m, c, e) refl

pub other_end : (size n : ℕ) (r r1 : Rest) (e : WaveRefusal) → number 4 r ≡ Ok (size, r1) → padded size ≡ n → past n r1 ≡ Err e → other_chunk r ≡ Err e
unfolding other_chunk
other_end size n r r1 e a m b = rw (a, m, b) refl

pub other_is : (size n : ℕ) (r r1 r2 r3 : Rest) → number 4 r ≡ Ok (size, r1) → padded size ≡ n → past n r1 ≡ Ok r2 → r2 ≡ r3 → other_chunk r ≡ Ok r3
unfolding other_chunk
other_is size n r r1 r2 r3 a m b e = rw (a, m, b, e) refl

-- a number of channels that may be
pub channels_within : (n : ℕ) → 1 ≤ n → n ≤ MOST_CHANNELS → is_channels n ≡ true
channels_within n h m = let a = le-leb 1 n h in let b = le-leb n MOST_CHANNELS m in rw (a, b) refl

pub channels_few : (n : ℕ) → n < 1 → is_channels n ≡ false
channels_few n h = let a = lt-leb 1 n h in rw a refl

pub sound_channels : (r : Rest) (e : WaveRefusal) → number 2 r ≡ Err e → sound_at r ≡ Err e
unfolding sound_at
sound_channels r e a = rw a refl

pub sound_wrong : (channels : ℕ) (r r1 : Rest) → number 2 r ≡ Ok (channels, r1) → is_channels channels ≡ false → sound_at r ≡ Err (WaveFormat r.place)
unfolding sound_at
sound_wrong channels r r1 a h = rw (a, h) refl

-- ---- what only an extensible format has

pub extension_pass : (r : Rest) (e : WaveRefusal) → past 8 r ≡ Err e → extension true r ≡ Err e
unfolding extension
extension_pass r e a = rw a refl

pub extension_sub : (n : ℕ) (r r1 : Rest) (e : WaveRefusal) → past 8 r ≡ Ok r1 → n ≡ 16 → next n r1 ≡ Err e → extension true r ≡ Err e
unfolding extension
extension_sub n r r1 e a m b = let b' : next 16 r1 ≡ Err e = rw (← m) b in rw (a, b') refl

pub extension_wrong : (n : ℕ) (sub : List ℕ) (r r1 r2 : Rest) → past 8 r ≡ Ok r1 → n ≡ 16 → next n r1 ≡ Ok (sub, r2) → bytes_eq sub plain_samples ≡ false
    → extension true r ≡ Err (WaveFormat r1.place)
unfolding extension
extension_wrong n sub r r1 r2 a m b w = let b' : next 16 r1 ≡ Ok (sub, r2) = rw (← m) b in rw (a, b', w) refl

pub extension_is : (n : ℕ) (sub : List ℕ) (r r1 r2 r3 : Rest) → past 8 r ≡ Ok r1 → n ≡ 16 → next n r1 ≡ Ok (sub, r2)
    → bytes_eq sub plain_samples ≡ true → r2 ≡ r3
    → extension true r ≡ Ok r3
unfolding extension
extension_is n sub r r1 r2 r3 a m b w e = let b' : next 16 r1 ≡ Ok (sub, r2) = rw (← m) b in rw (a, b', w, e) refl

pub format_size : (r : Rest) (e : WaveRefusal) → number 4 r ≡ Err e → format_chunk r ≡ Err e
unfolding format_chunk
format_size r e a = rw a refl

pub other_size : (r : Rest) (e : WaveRefusal) → number 4 r ≡ Err e → other_chunk r ≡ Err e
unfolding other_chunk
other_size r e a = rw a refl
