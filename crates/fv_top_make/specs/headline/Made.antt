-- The text and the noise of a program that is made, and the sum of its output (this project's profile).
use Rattle.std.specs.Prelude.{ℕ, zero, suc, List, [], ◌∷◌, ◌++◌, codes, decimal, fold, ℤ, pos, ◌+ℤ◌, ◌*ℤ◌}
use Rattle.fv_num.specs.headline.Words.{wrap, shifted_right}

-- The text of a program of voices: a voice, and this many of them side by side on one input, added up. It has two lines.
abbrev pub text_of : ℕ → List ℕ
text_of voices = codes "v(i) = + ~ (@(i*37+1) : *(i+3) : /(8));\n" ++ codes "process = _ <: par(i," ++ decimal voices ++ codes ",v(i)) :> _;\n"

-- the state of the noise after this one
abbrev pub next_state : ℤ → ℤ
next_state s = wrap ((s *ℤ pos 1103515245) +ℤ pos 12345)

-- n samples of the noise after a state: each is the upper half of the next state
abbrev pub noise_behind : ℤ → ℕ → List ℤ
noise_behind s zero = []
noise_behind s (suc n) = shifted_right (next_state s) (pos 16) ∷ noise_behind (next_state s) n

-- the noise for a program with this many voices
abbrev pub noise_of : (voices frames : ℕ) → List ℤ
noise_of voices frames = noise_behind (pos voices) frames

-- the sum of samples, which wraps
abbrev pub sum_of : List ℤ → ℤ
sum_of samples = wrap (fold ◌+ℤ◌ (pos 0) samples)
