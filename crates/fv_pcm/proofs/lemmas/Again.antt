-- What is written is read again.
use Rattle.std.proofs.Common.{◌≡◌, ℕ, zero, suc, ◌+◌, ◌-◌, ◌*◌, ◌/◌, ◌%◌, ◌^◌, ◌≤◌, ◌<◌, true, List, []}
use Rattle.std.proofs.Common.{◌∷◌, ◌++◌, length, take, drop, refl, sym, ap, ◌∙◌, arith, ℤ}
use Rattle.std.specs.Prelude.{pos, negsuc, ◌+ℤ◌, ◌-ℤ◌, flat_map, get_or, FitsSigned}
use Rattle.std.specs.Int.{w8, w16, w32, cast_signed, cast_unsigned, int_max, int_min}
use Rattle.std.proofs.lemmas.Int.{to_z-of_z}
use Rattle.std.proofs.lemmas.List.{take_at, drop_at, length-append}
use Rattle.std.proofs.Math.Seq.{drop-append-add}
use Rattle.std.proofs.Math.Nat.{mul-div_cancel, mul_assoc, suc-mul, mul-le-mul_right}
use Rattle.byteorder.specs.Endian.{little_number, little_bytes, twos_complement}
use Rattle.byteorder.specs.Numbers.{little_from-bytes, big_from-bytes}
use Rattle.fv_num.specs.headline.Words.{is_sample_width, clamped}
use Rattle.fv_num.specs.headline.Frames.{table}
use Rattle.fv_base.proofs.lemmas.Lists.{table_same}
use Rattle.fv_pcm.specs.declared.coding.Coding.{Coding}
use Rattle.fv_pcm.specs.declared.coding.Coding.TheVariants as coding
use Rattle.fv_pcm.specs.headline.Coded.{number_in, low_bytes, of_byte, stored_of, sample_of, sample_at, sample_bytes}
use Rattle.fv_pcm.specs.headline.Sizes.{Layout, frame_size, whole_bytes, present}
use Rattle.fv_pcm.specs.ReadAgain.{SampleIsReadAgain, AreStated, SamplesAreReadAgain}
use Rattle.fv_pcm.proofs.lemmas.Widths.{at_width, some_frame}
use Rattle.fv_pcm.proofs.lemmas.Samples.{length_sample}

-- ---- one sample

-- a number that is clamped to -(g + 1) .. g
magnitude_of : ℤ → ℕ
magnitude_of (pos n) = n
magnitude_of (negsuc n) = n

clamped_within : (g : ℕ) (x : ℤ) → magnitude_of (int_max (negsuc g) (int_min x (pos g))) ≤ g
unfolding magnitude_of
clamped_within g (pos n) = grind arith
clamped_within g (negsuc n) = grind arith

low_8 : (c : ℤ) → FitsSigned w8 c → cast_unsigned w32 c % 256 ≡ cast_unsigned w8 c
low_8 (pos n) f = let h : n < 128 = f.sfits in omega arith
low_8 (negsuc n) f = let h : n < 128 = f.sfits in omega arith

low_16 : (c : ℤ) → FitsSigned w16 c → cast_unsigned w32 c % 65536 ≡ cast_unsigned w16 c
low_16 (pos n) f = let h : n < 32768 = f.sfits in omega arith
low_16 (negsuc n) f = let h : n < 32768 = f.sfits in omega arith

low_24 : (c : ℤ) → magnitude_of c ≤ 8388607 → twos_complement 3 (cast_unsigned w32 c % 16777216) ≡ c
unfolding magnitude_of
low_24 (pos n) h = let e : n % 16777216 ≡ n = omega arith in rw e (grind arith)
low_24 (negsuc n) h = let e : (4294967296 - suc n) % 16777216 ≡ 16777216 - suc n = omega arith in rw e (grind arith)

low_32 : (c : ℤ) → FitsSigned w32 c → cast_unsigned w32 c % 4294967296 ≡ cast_unsigned w32 c
low_32 (pos n) f = let h : n < 2147483648 = f.sfits in omega arith
low_32 (negsuc n) f = let h : n < 2147483648 = f.sfits in omega arith

raised_8 : (c : ℤ) → magnitude_of c ≤ 127 → pos (cast_unsigned w32 (c +ℤ pos 128) % 256) -ℤ pos 128 ≡ c
unfolding magnitude_of
raised_8 (pos n) h = let e : (n + 128) % 256 ≡ n + 128 = omega arith in rw e (grind arith)
raised_8 (negsuc n) h = grind arith

fits_8 : (c : ℤ) → magnitude_of c ≤ 127 → FitsSigned w8 c
unfolding magnitude_of
fits_8 (pos n) h = record { sfits = omega arith }
fits_8 (negsuc n) h = record { sfits = omega arith }

fits_16 : (c : ℤ) → magnitude_of c ≤ 32767 → FitsSigned w16 c
unfolding magnitude_of
fits_16 (pos n) h = record { sfits = omega arith }
fits_16 (negsuc n) h = record { sfits = omega arith }

fits_32 : (c : ℤ) → magnitude_of c ≤ 2147483647 → FitsSigned w32 c
unfolding magnitude_of
fits_32 (pos n) h = record { sfits = omega arith }
fits_32 (negsuc n) h = record { sfits = omega arith }

-- the number in the first bytes of a number, the lowest or the highest first
lowest_first : (k u : ℕ) (ys : List ℕ) → little_number k (little_bytes k u ++ ys) ≡ u % 256 ^ k
lowest_first k u ys = let one : u / 256 ^ 0 ≡ u = omega arith in little_from-bytes k 0 u ys ∙ ap (λ (n : ℕ). n % 256 ^ k) one

-- the lowest bytes of a number are read as what they keep of it
low_1 : (c : Coding) (u : ℕ) (ys : List ℕ) → number_in c 1 (low_bytes c 1 u ++ ys) ≡ u % 256
low_1 coding.Wave u ys = lowest_first 1 u ys
low_1 coding.Au u ys = big_from-bytes 1 u ys

low_2 : (c : Coding) (u : ℕ) (ys : List ℕ) → number_in c 2 (low_bytes c 2 u ++ ys) ≡ u % 65536
low_2 coding.Wave u ys = lowest_first 2 u ys
low_2 coding.Au u ys = big_from-bytes 2 u ys

low_3 : (c : Coding) (u : ℕ) (ys : List ℕ) → number_in c 3 (low_bytes c 3 u ++ ys) ≡ u % 16777216
low_3 coding.Wave u ys = lowest_first 3 u ys
low_3 coding.Au u ys = big_from-bytes 3 u ys

low_4 : (c : Coding) (u : ℕ) (ys : List ℕ) → number_in c 4 (low_bytes c 4 u ++ ys) ≡ u % 4294967296
low_4 coding.Wave u ys = lowest_first 4 u ys
low_4 coding.Au u ys = big_from-bytes 4 u ys

-- a byte is read as the number that is stored in it
byte_again : (c : Coding) (x : ℤ) → of_byte c (cast_unsigned w32 (stored_of c 8 x) % 256) ≡ clamped 8 x
byte_again coding.Wave x = raised_8 (clamped 8 x) (clamped_within 127 x)
byte_again coding.Au x = let f = fits_8 (clamped 8 x) (clamped_within 127 x) in ap (cast_signed w8) (low_8 (clamped 8 x) f) ∙ to_z-of_z w8 (clamped 8 x) f

-- a wider sample is stored as it is
stored_16 : (c : Coding) (x : ℤ) → stored_of c 16 x ≡ clamped 16 x
stored_16 coding.Wave x = refl
stored_16 coding.Au x = refl

stored_24 : (c : Coding) (x : ℤ) → stored_of c 24 x ≡ clamped 24 x
stored_24 coding.Wave x = refl
stored_24 coding.Au x = refl

stored_32 : (c : Coding) (x : ℤ) → stored_of c 32 x ≡ clamped 32 x
stored_32 coding.Wave x = refl
stored_32 coding.Au x = refl

pub sample_again : SampleIsReadAgain
sample_again c bits x ys h =
    at_width (λ b. sample_of c b (sample_bytes c b x ++ ys) ≡ clamped b x) bits h
    (ap (of_byte c) (low_1 c (cast_unsigned w32 (stored_of c 8 x)) ys) ∙ byte_again c x)
    (let f = fits_16 (clamped 16 x) (clamped_within 32767 x) in
    ap (cast_signed w16) (low_2 c (cast_unsigned w32 (stored_of c 16 x)) ys ∙ ap (λ z. cast_unsigned w32 z % 65536) (stored_16 c x) ∙ low_16 (clamped 16 x) f)
    ∙ to_z-of_z w16 (clamped 16 x) f)
    (ap (twos_complement 3) (low_3 c (cast_unsigned w32 (stored_of c 24 x)) ys ∙ ap (λ z. cast_unsigned w32 z % 16777216) (stored_24 c x))
    ∙ low_24 (clamped 24 x) (clamped_within 8388607 x))
    (let f = fits_32 (clamped 32 x) (clamped_within 2147483647 x) in
    ap (cast_signed w32) (low_4 c (cast_unsigned w32 (stored_of c 32 x)) ys ∙ ap (λ z. cast_unsigned w32 z % 4294967296) (stored_32 c x)
    ∙ low_32 (clamped 32 x) f)
    ∙ to_z-of_z w32 (clamped 32 x) f)

-- ---- all samples

sample_at_again : (c : Coding) (bits j : ℕ) (xs : List ℤ) → is_sample_width bits ≡ true → j < length xs
    → sample_at c bits (flat_map (sample_bytes c bits) xs) j ≡ clamped bits (get_or xs j (pos 0))
unfolding sample_at
sample_at_again c bits j [] h l = absurd (omega arith)
sample_at_again c bits zero (x ∷ xs) h l =
    let none : 0 * (bits / 8) ≡ 0 = omega arith in
    ap (λ (n : ℕ). sample_of c bits (drop n (sample_bytes c bits x ++ flat_map (sample_bytes c bits) xs))) none
    ∙ sample_again c bits x (flat_map (sample_bytes c bits) xs) h
sample_at_again c bits (suc j) (x ∷ xs) h l =
    let ys = flat_map (sample_bytes c bits) xs in
    let more : suc j * (bits / 8) ≡ length (sample_bytes c bits x) + j * (bits / 8) = omega (arith, suc-mul j (bits / 8), length_sample c bits x h) in
    ap (λ (n : ℕ). sample_of c bits (drop n (sample_bytes c bits x ++ ys))) more
    ∙ ap (sample_of c bits) (drop-append-add (sample_bytes c bits x) ys (j * (bits / 8)))
    ∙ sample_at_again c bits j xs h (omega arith)

pub length_samples : (c : Coding) (bits : ℕ) (xs : List ℤ) → is_sample_width bits ≡ true
    → length (flat_map (sample_bytes c bits) xs) ≡ length xs * (bits / 8)
length_samples c bits [] h = omega arith
length_samples c bits (x ∷ xs) h =
    let rest = length_samples c bits xs h in
    omega (arith, length-append (sample_bytes c bits x) (flat_map (sample_bytes c bits) xs), rest, length_sample c bits x h, suc-mul (length xs) (bits / 8))

length_stored : (c : Coding) (l : Layout) (frames : ℕ) (xs : List ℤ) (before : List ℕ) → AreStated l frames xs before
    → length (flat_map (sample_bytes c l.bits) xs) ≡ frames * frame_size l.channels l.bits
length_stored c l frames xs before w =
    length_samples c l.bits xs w.wide ∙ ap (λ (n : ℕ). n * (l.bits / 8)) w.whole ∙ mul_assoc frames l.channels (l.bits / 8)

-- what is present of them are their bytes
samples_present : (c : Coding) (l : Layout) (frames : ℕ) (xs : List ℤ) (before behind : List ℕ) → AreStated l frames xs before
    → present l (before ++ (flat_map (sample_bytes c l.bits) xs ++ behind)) ≡ flat_map (sample_bytes c l.bits) xs
samples_present c l frames xs before behind w =
    let stored = flat_map (sample_bytes c l.bits) xs in
    let size = frame_size l.channels l.bits in
    let whole : whole_bytes l ≡ frames * size =
    ap (λ (n : ℕ). n / size * size) w.size ∙ ap (λ (n : ℕ). n * size) (mul-div_cancel frames (some_frame l.channels l.bits w.some w.wide)) in
    let long = length_stored c l frames xs before w in
    ap (take (whole_bytes l)) (drop_at before (stored ++ behind) l.place w.place)
    ∙ ap (λ (n : ℕ). take n (stored ++ behind)) (whole ∙ sym long)
    ∙ take_at stored behind (length stored) refl

pub samples_again : SamplesAreReadAgain
samples_again c l frames xs before behind w =
    let stored = flat_map (sample_bytes c l.bits) xs in
    let size = frame_size l.channels l.bits in
    let long = length_stored c l frames xs before w in
    let counted : length stored / size ≡ frames = ap (λ (n : ℕ). n / size) long ∙ mul-div_cancel frames (some_frame l.channels l.bits w.some w.wide) in
    ap (λ bytes. table (length bytes / size) (λ t. table l.channels (λ i. sample_at c l.bits bytes (t * l.channels + i))))
    (samples_present c l frames xs before behind w)
    ∙ ap (λ (n : ℕ). table n (λ t. table l.channels (λ i. sample_at c l.bits stored (t * l.channels + i)))) counted
    ∙ table_same frames _ _ (λ t d. table_same l.channels _ _ (λ i m. sample_at_again c l.bits (t * l.channels + i) xs w.wide (inside t i d m)))
  where
    inside : (t i : ℕ) → t < frames → i < l.channels → t * l.channels + i < length xs
    inside t i d m = let most : suc t * l.channels ≤ frames * l.channels = mul-le-mul_right l.channels (omega arith) in
        omega (arith, most, suc-mul t l.channels, w.whole)
