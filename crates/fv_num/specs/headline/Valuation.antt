-- The streams of a list of steps, each of which reads earlier steps at the same time, and any steps at earlier times.
use Rattle.std.specs.Prelude.{ℕ, zero, suc, List, [], ◌∷◌, ◌++◌, ℤ, pos, if◌then◌else◌, nat_eq}
use Rattle.fv_num.specs.headline.Words.{argument}
use Rattle.fv_num.specs.headline.Frames.{Stream}

-- what a step gives at a time, where step w of its list has the stream v w
abbrev pub Meaning : Type 0 → Type 0
Meaning S = (v : ℕ → Stream) → S → ℕ → ℤ

-- the streams past before time t, and the numbers now at time t
abbrev pub at_time : ℕ → (past : ℕ → Stream) → (now : List ℤ) → ℕ → Stream
at_time t past now w u = if nat_eq u t then argument now w else past w u

-- The numbers of a list of steps at time t, one after another. The steps before it have the numbers now. They come first.
abbrev pub numbers : {S : Type 0} → Meaning S → ℕ → (past : ℕ → Stream) → (now : List ℤ) → List S → List ℤ
numbers f t past now [] = now
numbers f t past now (s ∷ ss) = numbers f t past (now ++ f (at_time t past now) s t ∷ []) ss

-- the streams of the steps before time t
abbrev pub streams_before : {S : Type 0} → Meaning S → List S → ℕ → ℕ → Stream
streams_before f ss zero w u = pos 0
streams_before f ss (suc t) w u = at_time t (streams_before f ss t) (numbers f t (streams_before f ss t) [] ss) w u

-- the stream of step w
abbrev pub valuation : {S : Type 0} → Meaning S → List S → ℕ → Stream
valuation f ss w t = argument (numbers f t (streams_before f ss t) [] ss) w
