-- The past of a stream.
use Rattle.std.specs.Prelude.{ℕ, ◌+◌, List, ℤ, pos}
use Rattle.fv_signal.specs.Frames.{Stream, back, table}

-- the history of a stream before time t: its last numbers, and 0 before time 0
abbrev pub past : (history : ℕ) → Stream → (t : ℕ) → List ℤ
past history v t = table history (λ k. back v (t + k) (pos history))
