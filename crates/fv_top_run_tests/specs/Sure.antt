-- What makes a run sure to be done, on the state of the desk before it (this project's profile).
use Rattle.std.specs.Prelude.{ℕ, IsTrue, List}
use Rattle.fv_outside.specs.Role.{Role}
use Rattle.fv_outside.specs.headline.Desk.{DeskState, IsUnfailing}
use Rattle.fv_top.specs.Runs.{Run}
use Rattle.fv_top.specs.Commands.{Playing}
use Rattle.fv_top.specs.headline.Promise.{Asks, Plays, IsWhole, HasRoom}

-- The words ask for a run whose files can be played; the desk tells its bytes, fails no later call, and has room for what
-- will be written.
pub record IsSure (words : List (List ℕ)) (run : Run) (desk : DeskState) : Type 0 where
  pub asks : Asks words (Playing run)
  pub tells : IsTrue desk.tells
  pub plays : Plays run desk.files
  pub whole : IsWhole plays
  pub unfailing : (r : Role) → IsUnfailing r desk
  pub room : (r : Role) → HasRoom (Playing run) desk r
