-- Worked examples, which compute.
use Rattle.std.specs.Prelude.{◌≡◌, refl, ℕ, List, [], ◌∷◌, ◌++◌, take, drop, flat_map, Some, Ok, Err, codes, pos, negsuc}
use Rattle.fv_au.specs.declared.refusal.AuRefusal.TheVariants.{AuFormat, AuTruncated}
use Rattle.fv_pcm.specs.declared.coding.Coding.TheVariants.{Au}
use Rattle.fv_pcm.specs.headline.Coded.{sample_of, sample_bytes}
use Rattle.fv_au.specs.headline.Reading.{au, head_bytes}

-- three samples of 16 bits, in one channel, 44,100 a second
abbrev three : List ℕ
three = codes ".snd" ++ 0 ∷ 0 ∷ 0 ∷ 24 ∷ 0 ∷ 0 ∷ 0 ∷ 6 ∷ 0 ∷ 0 ∷ 0 ∷ 3 ∷ 0 ∷ 0 ∷ 172 ∷ 68 ∷ 0 ∷ 0 ∷ 0 ∷ 1 ∷ 0 ∷ 1 ∷ 255 ∷ 254 ∷ 0 ∷ 3 ∷ []

its_head : au three ≡ Ok (record { channels = 1; rate = 44100; bits = 16; data_bytes = Some 6; offset = 24 })
its_head = refl

its_samples : (sample_of Au 16 (drop 24 three) ≡ pos 1) × (sample_of Au 16 (drop 26 three) ≡ negsuc 1) × (sample_of Au 16 (drop 28 three) ≡ pos 3)
its_samples = (refl, refl, refl)

written : head_bytes 1 44100 16 6 ++ flat_map (sample_bytes Au 16) (pos 1 ∷ negsuc 1 ∷ pos 3 ∷ []) ≡ three
written = refl

-- a file that ends within the encoding, within the offset; and an encoding that is not taken
short : (au (take 15 three) ≡ Err (AuTruncated 15)) × (au (take 7 three) ≡ Err (AuTruncated 7))
short = (refl, refl)

mu_law : au (take 12 three ++ 0 ∷ 0 ∷ 0 ∷ 1 ∷ []) ≡ Err (AuFormat 12)
mu_law = refl

-- samples of 8 bits are signed
eight : (sample_of Au 8 (0 ∷ []) ≡ pos 0) × (sample_of Au 8 (127 ∷ []) ≡ pos 127) × (sample_of Au 8 (128 ∷ []) ≡ negsuc 127)
eight = (refl, refl, refl)

eight_written : flat_map (sample_bytes Au 8) (pos 1 ∷ pos 128 ∷ negsuc 126 ∷ []) ≡ 1 ∷ 127 ∷ 129 ∷ []
eight_written = refl
