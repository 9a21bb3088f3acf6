-- Samples as bytes and back, which compute.
use Rattle.std.specs.Prelude.{◌≡◌, refl, List, [], ◌∷◌, flat_map, ℤ, pos, negsuc}
use Rattle.fv_pcm.specs.declared.coding.Coding.TheVariants as coding
use Rattle.fv_pcm.specs.headline.Coded.{sample_of, sample_at, sample_bytes}
use Rattle.fv_pcm.specs.Coded.{samples_in}
use Rattle.fv_pcm.specs.headline.Sizes.{Layout}
use Rattle.fv_pcm.specs.Sizes.{frames_in}

-- 1, -2 and a number that is clamped
abbrev three : List ℤ
three = pos 1 ∷ negsuc 1 ∷ negsuc 2147483648 ∷ []

-- 8 bits: 128 higher, or signed
wave_8 : flat_map (sample_bytes coding.Wave 8) three ≡ 129 ∷ 126 ∷ 0 ∷ []
wave_8 = refl

au_8 : flat_map (sample_bytes coding.Au 8) three ≡ 1 ∷ 254 ∷ 128 ∷ []
au_8 = refl

wave_16 : flat_map (sample_bytes coding.Wave 16) three ≡ 1 ∷ 0 ∷ 254 ∷ 255 ∷ 0 ∷ 128 ∷ []
wave_16 = refl

au_16 : flat_map (sample_bytes coding.Au 16) three ≡ 0 ∷ 1 ∷ 255 ∷ 254 ∷ 128 ∷ 0 ∷ []
au_16 = refl

wave_24 : flat_map (sample_bytes coding.Wave 24) three ≡ 1 ∷ 0 ∷ 0 ∷ 254 ∷ 255 ∷ 255 ∷ 0 ∷ 0 ∷ 128 ∷ []
wave_24 = refl

au_24 : flat_map (sample_bytes coding.Au 24) three ≡ 0 ∷ 0 ∷ 1 ∷ 255 ∷ 255 ∷ 254 ∷ 128 ∷ 0 ∷ 0 ∷ []
au_24 = refl

wave_32 : flat_map (sample_bytes coding.Wave 32) three ≡ 1 ∷ 0 ∷ 0 ∷ 0 ∷ 254 ∷ 255 ∷ 255 ∷ 255 ∷ 0 ∷ 0 ∷ 0 ∷ 128 ∷ []
wave_32 = refl

au_32 : flat_map (sample_bytes coding.Au 32) three ≡ 0 ∷ 0 ∷ 0 ∷ 1 ∷ 255 ∷ 255 ∷ 255 ∷ 254 ∷ 128 ∷ 0 ∷ 0 ∷ 0 ∷ []
au_32 = refl

-- the byte 200 as a sample
two_hundred : (sample_of coding.Wave 8 (200 ∷ []) ≡ pos 72) × (sample_of coding.Au 8 (200 ∷ []) ≡ negsuc 55)
two_hundred = (refl, refl)

-- two samples of 16 bits
two : samples_in coding.Au 16 2 (0 ∷ 1 ∷ 255 ∷ 254 ∷ []) ≡ pos 1 ∷ negsuc 1 ∷ []
unfolding sample_at
two = refl

-- after one byte, two frames of two samples of 8 bits, where five bytes are stated; and where only three are there
abbrev pair : Layout
pair = record { channels = 2; bits = 8; size = 5; place = 1 }

two_frames : frames_in coding.Au pair (9 ∷ 1 ∷ 255 ∷ 2 ∷ 128 ∷ 7 ∷ []) ≡ (pos 1 ∷ negsuc 0 ∷ []) ∷ (pos 2 ∷ negsuc 127 ∷ []) ∷ []
unfolding sample_at
two_frames = refl

one_frame : frames_in coding.Au pair (9 ∷ 1 ∷ 255 ∷ 2 ∷ []) ≡ (pos 1 ∷ negsuc 0 ∷ []) ∷ []
unfolding sample_at
one_frame = refl
