-- What no call says beside `headline/Tapes`: what was heard of an input and said to an output, and how that stops (RIFF WAVE 1991; Sun
-- audio; this project's profile).
use Rattle.std.specs.Prelude.{◌≡◌, ◌⊎◌, ℕ, ◌+◌, ◌<◌, IsTrue, [], length}
use Rattle.fv_base.specs.declared.role.Role.TheVariants.{Input}
use Rattle.fv_outside.specs.headline.Desk.{DeskState, KeepsFaults}
use Rattle.fv_outside.specs.Desk.{TakesSome}
use Rattle.fv_wav.specs.Stopping.{IsFaultOfInput}
use Rattle.fv_file_tape.specs.declared.file_tape.Stop.{Stop}
use Rattle.fv_file_tape.specs.declared.file_tape.Stop.TheVariants as stop

-- The next n bytes of the input could not be taken, at a place: a fault was counted, or fewer are left, all of which were taken.
pub record Misses (n place : ℕ) (old new : DeskState) (e : Stop) : Type 0 where
  pub some : TakesSome Input old new
  pub cause : ((e ≡ stop.Read) × IsFaultOfInput old new)
      ⊎ ((end : ℕ) × (e ≡ stop.End end) × KeepsFaults old new
      × (IsTrue old.tells → (length (old.left Input) < n) × (new.left Input ≡ []) × (end ≡ place + length (old.left Input))))
