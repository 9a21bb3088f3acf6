-- What was heard of a noise, and given for it (this project's profile).
use Rattle.std.specs.Prelude.{◌≡◌, ℤ, List, length}
use Rattle.fv_top_make.specs.declared.noise_tape.Noise.{Noise}
use Rattle.fv_top_make.specs.headline.Made.{noise_behind}
use Rattle.fv_top_make.specs.Made.{state_behind, sum_from}

-- From one moment of a noise to a later one these samples were heard, and those given.
pub record Sounds (start now : Noise) (h s : List ℤ) : Type 0 where
  pub heard : h ≡ noise_behind start.state (length h)
  pub state : now.state ≡ state_behind start.state (length h)
  pub sum : now.sum ≡ sum_from start.sum s
