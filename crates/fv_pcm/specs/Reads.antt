-- What a reader of samples takes of an input (RIFF WAVE 1991; Sun audio).
use Rattle.std.specs.Prelude.{◌≡◌, ℕ, ◌*◌, ◌/◌, ◌<◌, IsTrue, List, [], length, ℤ}
use Rattle.fv_base.specs.declared.role.Role.TheVariants.{Input}
use Rattle.fv_outside.specs.headline.Desk.{DeskState, KeepsFaults}
use Rattle.fv_outside.specs.Desk.{Takes}
use Rattle.fv_pcm.specs.declared.coding.Coding.{Coding}
use Rattle.fv_pcm.specs.Coded.{samples_in}

-- This many bytes were taken of the input, and no fault counted. Where they are those of all samples, the samples are in them; where they
-- are fewer, none is left.
pub record HasRead (c : Coding) (bits n : ℕ) (samples : List ℤ) (old new : DeskState) : Type 0 where
  pub bytes : List ℕ
  pub long : length bytes ≡ n
  pub takes : Takes Input bytes old new
  pub steady : KeepsFaults old new
  pub whole : n ≡ length samples * (bits / 8) → IsTrue old.tells → samples ≡ samples_in c bits (length samples) (old.left Input)
  pub short : n < length samples * (bits / 8) → IsTrue old.tells → new.left Input ≡ []
