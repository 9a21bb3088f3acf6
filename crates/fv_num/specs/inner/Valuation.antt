-- What no call says beside `headline/Valuation`: the streams of a list of steps, each of which reads earlier steps at the same time, and
-- any steps at earlier times.
use Rattle.std.specs.Prelude.{◌≡◌, ℕ, suc, ◌<◌, List, [], ◌∷◌}
use Rattle.fv_num.specs.headline.Frames.{Stream}
use Rattle.fv_num.specs.headline.Valuation.{Meaning}

-- step s, at place i of its list, reads no more than it may
abbrev pub IsCausalAt : {S : Type 0} → Meaning S → ℕ → S → Type 0
IsCausalAt f i s = (v v' : ℕ → Stream) (t : ℕ) → ((w u : ℕ) → u < t → v w u ≡ v' w u) → ((w : ℕ) → w < i → v w t ≡ v' w t) → f v s t ≡ f v' s t

-- from place i on each step does
abbrev pub AreCausalFrom : {S : Type 0} → Meaning S → ℕ → List S → Type 0
AreCausalFrom f i [] = Unit {0}
AreCausalFrom f i (s ∷ ss) = IsCausalAt f i s × AreCausalFrom f (suc i) ss
