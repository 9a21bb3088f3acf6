-- The samples after some frames are the next frames.
use Rattle.std.proofs.Common.{◌≡◌, ℕ, zero, suc, ◌+◌, ◌*◌, ◌/◌, ◌≤◌, ◌<◌, true, List, [], ◌∷◌, ◌++◌, length, take}
use Rattle.std.proofs.Common.{drop, get_or, refl, sym, ap, ap₂, ◌∙◌, arith, length-take}
use Rattle.std.specs.Prelude.{pos}
use Rattle.std.proofs.Math.Nat.{mul_assoc, mul-le-mul_right, suc-mul, le-div_iff_mul-le, add-mul, le_of_mul-le-mul_right}
use Rattle.std.proofs.lemmas.List.{take_more, drop-drop, get_or-drop, length-drop}
use Rattle.fv_num.specs.headline.Words.{argument, is_sample_width}
use Rattle.fv_num.specs.headline.Frames.{table}
use Rattle.fv_base.proofs.lemmas.Lists.{table_same, get_or_table, length_table}
use Rattle.fv_pcm.specs.declared.coding.Coding.{Coding}
use Rattle.fv_pcm.specs.headline.Coded.{sample_of, sample_at}
use Rattle.fv_pcm.specs.Coded.{samples_in}
use Rattle.fv_pcm.specs.headline.Sizes.{Layout, frame_size, stated_frames, whole_bytes, present}
use Rattle.fv_pcm.specs.Sizes.{frames_present, frames_in, rows}
use Rattle.fv_pcm.proofs.lemmas.Widths.{some_frame}
use Rattle.fv_pcm.proofs.lemmas.Samples.{sample_within}

-- a part of a table
table_part : {A : Type 0} (m t n : ℕ) (f : ℕ → A) → t + n ≤ m → take n (drop t (table m f)) ≡ table n (λ j. f (t + j))
table_part m t zero f h = refl
table_part m t (suc n) f h =
    let inside : n < length (drop t (table m f)) = omega (arith, length-drop t (table m f), length_table m f) in
    take_step (drop t (table m f)) n (f 0) inside
    ∙ ap₂ (λ xs x. xs ++ x ∷ []) (table_part m t n f (omega arith)) (get_or-drop t (table m f) n (f 0) ∙ get_or_table m f (t + n) (f 0) (omega arith))
  where
    take_step : {A : Type 0} (xs : List A) (n : ℕ) (d : A) → n < length xs → take (suc n) xs ≡ take n xs ++ get_or xs n d ∷ []
    take_step xs n d h = let one : suc n ≡ n + 1 = omega arith in ap (λ (k : ℕ). take k xs) one ∙ take_more xs n d h

-- a sample after t frames is one of the bytes after them
sample_shift : (c : Coding) (bits channels place t k : ℕ) (bytes : List ℕ)
    → sample_at c bits (drop (place + t * frame_size channels bits) bytes) k ≡ sample_at c bits (drop place bytes) (t * channels + k)
unfolding sample_at
sample_shift c bits channels place t k bytes =
    let at : place + t * frame_size channels bits + k * (bits / 8) ≡ place + (t * channels + k) * (bits / 8) =
    omega (arith, add-mul (t * channels) k (bits / 8), mul_assoc t channels (bits / 8)) in
    ap (sample_of c bits) (drop-drop (k * (bits / 8)) (place + t * frame_size channels bits) bytes ∙ ap (λ (n : ℕ). drop n bytes) at
    ∙ sym (drop-drop ((t * channels + k) * (bits / 8)) place bytes))

pub follow : (c : Coding) (layout : Layout) (bytes : List ℕ) (t n : ℕ) → 1 ≤ layout.channels → is_sample_width layout.bits ≡ true
    → (t + n) * frame_size layout.channels layout.bits ≤ length (present layout bytes)
    → rows layout.channels n (samples_in c layout.bits (n * layout.channels) (drop (layout.place + t * frame_size layout.channels layout.bits) bytes))
    ≡ take n (drop t (frames_in c layout bytes))
follow c layout bytes t n some wide h =
    sym (table_part (frames_present layout bytes) t n _ counted ∙ table_same n _ _ (λ j l. table_same channels _ _ (λ i m. sym (same j i l m))))
  where
    channels : ℕ
    channels = layout.channels

    size : ℕ
    size = layout.bits / 8

    behind : List ℕ
    behind = drop (layout.place + t * frame_size layout.channels layout.bits) bytes

    positive : 0 < frame_size layout.channels layout.bits
    positive = some_frame layout.channels layout.bits some wide

    counted : t + n ≤ frames_present layout bytes
    counted = (le-div_iff_mul-le positive).1 h

    stated : t + n ≤ stated_frames layout
    stated = le_of_mul-le-mul_right (omega (arith, h, length-take (whole_bytes layout) (drop layout.place bytes))) positive

    whole : present layout bytes ≡ take (stated_frames layout * channels * size) (drop layout.place bytes)
    whole = ap (λ (n : ℕ). take n (drop layout.place bytes)) (sym (mul_assoc (stated_frames layout) layout.channels (layout.bits / 8)))

    inside : (j i m : ℕ) → j < m → i < channels → j * channels + i < m * channels
    inside j i m l k = omega (arith, mul-le-mul_right channels (more j m l), suc-mul j channels)
      where
        more : (j m : ℕ) → j < m → suc j ≤ m
        more j m l = omega arith

    same : (j i : ℕ) → j < n → i < channels
        → argument (samples_in c layout.bits (n * channels) behind) (j * channels + i) ≡ sample_at c layout.bits (present layout bytes) ((t + j) * channels + i)
    same j i l m =
        let place : t * channels + (j * channels + i) ≡ (t + j) * channels + i = omega (arith, add-mul t j channels) in
        get_or_table (n * channels) (sample_at c layout.bits behind) (j * channels + i) (pos 0) (inside j i n l m)
        ∙ sample_shift c layout.bits channels layout.place t (j * channels + i) bytes
        ∙ ap (sample_at c layout.bits (drop layout.place bytes)) place
        ∙ sym (sample_within c layout.bits (stated_frames layout * channels) ((t + j) * channels + i) (drop layout.place bytes) wide
        (inside (t + j) i (stated_frames layout) (omega (arith, l, stated)) m))
        ∙ ap (λ ys. sample_at c layout.bits ys ((t + j) * channels + i)) (sym whole)
