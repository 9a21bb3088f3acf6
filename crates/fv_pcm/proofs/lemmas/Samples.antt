-- Samples in a part of the bytes.
use Rattle.std.proofs.Common.{◌≡◌, ℕ, ◌+◌, ◌-◌, ◌*◌, ◌/◌, ◌≤◌, ◌<◌, true, List, [], ◌++◌, length, take, drop, refl, sym, ap, ◌∙◌, arith, ℤ}
use Rattle.std.specs.Prelude.{flat_map, get_or}
use Rattle.std.specs.Int.{w16, w32, cast_signed}
use Rattle.std.proofs.Math.Nat.{mul-le-mul_right}
use Rattle.std.proofs.lemmas.List.{drop-take, take_more, flat_map_more}
use Rattle.byteorder.specs.Endian.{twos_complement}
use Rattle.byteorder.specs.Numbers.{little_from-take, big_from-take}
use Rattle.fv_num.specs.headline.Words.{is_sample_width}
use Rattle.fv_base.proofs.lemmas.Lists.{table_same}
use Rattle.fv_pcm.specs.declared.coding.Coding.{Coding}
use Rattle.fv_pcm.specs.declared.coding.Coding.TheVariants as coding
use Rattle.fv_pcm.specs.headline.Coded.{number_in, of_byte, sample_of, sample_at, sample_bytes}
use Rattle.fv_pcm.specs.Coded.{samples_in}
use Rattle.fv_pcm.proofs.lemmas.Widths.{at_width}

-- a number reads only its own bytes
number_first : (c : Coding) (n r : ℕ) (ys : List ℕ) → n ≤ r → number_in c n (take r ys) ≡ number_in c n ys
number_first coding.Wave n r ys l = little_from-take 0 n r ys (omega arith)
number_first coding.Au n r ys l = big_from-take 0 n r ys (omega arith)

-- a sample reads only its own bytes
pub sample_first : (c : Coding) (bits r : ℕ) (ys : List ℕ) → is_sample_width bits ≡ true → bits / 8 ≤ r → sample_of c bits (take r ys) ≡ sample_of c bits ys
sample_first c bits r ys h =
    at_width (λ b. b / 8 ≤ r → sample_of c b (take r ys) ≡ sample_of c b ys) bits h
    (λ l. ap (of_byte c) (number_first c 1 r ys l)) (λ l. ap (cast_signed w16) (number_first c 2 r ys l))
    (λ l. ap (twos_complement 3) (number_first c 3 r ys l)) (λ l. ap (cast_signed w32) (number_first c 4 r ys l))

pub sample_within : (c : Coding) (bits m j : ℕ) (ys : List ℕ) → is_sample_width bits ≡ true → j < m
    → sample_at c bits (take (m * (bits / 8)) ys) j ≡ sample_at c bits ys j
unfolding sample_at
sample_within c bits m j ys h l =
    let k = bits / 8 in
    let more : (j + 1) * k ≤ m * k = mul-le-mul_right k (omega arith) in
    let parts : m * k ≡ j * k + (m * k - j * k) = omega arith in
    let cut : drop (j * k) (take (m * k) ys) ≡ take (m * k - j * k) (drop (j * k) ys) =
    ap (λ (n : ℕ). drop (j * k) (take n ys)) parts ∙ drop-take (j * k) (m * k - j * k) ys in
    ap (sample_of c bits) cut ∙ sample_first c bits (m * k - j * k) (drop (j * k) ys) h (omega arith)

pub samples_first : (c : Coding) (bits m : ℕ) (xs ys : List ℕ) → is_sample_width bits ≡ true → xs ≡ take (m * (bits / 8)) ys
    → samples_in c bits m xs ≡ samples_in c bits m ys
samples_first c bits m xs ys h e =
    ap (samples_in c bits m) e ∙ table_same m (sample_at c bits (take (m * (bits / 8)) ys)) (sample_at c bits ys) (λ j l. sample_within c bits m j ys h l)

-- a sample has as many bytes as its width says
pub length_sample : (c : Coding) (bits : ℕ) (x : ℤ) → is_sample_width bits ≡ true → length (sample_bytes c bits x) ≡ bits / 8
length_sample coding.Wave bits x h = at_width (λ b. length (sample_bytes coding.Wave b x) ≡ b / 8) bits h refl refl refl refl
length_sample coding.Au bits x h = at_width (λ b. length (sample_bytes coding.Au b x) ≡ b / 8) bits h refl refl refl refl

-- one sample more
pub sample_more : (c : Coding) (bits i : ℕ) (samples : List ℤ) (d : ℤ) → i < length samples
    → flat_map (sample_bytes c bits) (take (i + 1) samples) ≡ flat_map (sample_bytes c bits) (take i samples) ++ sample_bytes c bits (get_or samples i d)
sample_more c bits i samples d h =
    ap (flat_map (sample_bytes c bits)) (take_more samples i d h) ∙ sym (flat_map_more (sample_bytes c bits) [] (take i samples) (get_or samples i d))
