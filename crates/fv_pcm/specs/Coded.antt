-- What calls say beside `headline/Coded`: samples as bytes, in the two codings (RIFF WAVE 1991; Sun audio).
use Rattle.std.specs.Prelude.{ℕ, List, ℤ}
use Rattle.fv_num.specs.headline.Frames.{table}
use Rattle.fv_pcm.specs.declared.coding.Coding.{Coding}
use Rattle.fv_pcm.specs.headline.Coded.{sample_at}

-- ---- reading

-- the first n samples
abbrev pub samples_in : Coding → (bits n : ℕ) → List ℕ → List ℤ
samples_in c bits n bytes = table n (sample_at c bits bytes)
