-- The streams of the controls (this project's profile).
use Rattle.std.specs.Prelude.{ℕ, ◌&&◌, ◌==◌, nat_le, List, [], ◌∷◌, ℤ, if◌then◌else◌}
use Rattle.fv_diagram.specs.Words.{argument}
use Rattle.fv_diagram.specs.Frames.{Stream}
use Rattle.fv_control.specs.declared.script.Change.{Change}

-- the value of the last change of control k at time t or before, and this value where there is none
abbrev pub value_after : List Change → ℤ → (k t : ℕ) → ℤ
value_after [] value k t = value
value_after (c ∷ cs) value k t = value_after cs (if (c.control == k) && nat_le c.frame t then c.value else value) k t

-- the stream of control k, where the controls begin at these values
abbrev pub control_streams : List Change → (initial : List ℤ) → ℕ → Stream
control_streams changes initial k t = value_after changes (argument initial k) k t
