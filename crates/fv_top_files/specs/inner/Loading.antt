-- What no call says beside `headline/Loading`: what loading of a file leaves of the desk, and why it stops.
use Rattle.std.specs.Prelude.{◌≡◌, ◌⊎◌, ℕ, IsTrue, List, Option}
use Rattle.std.specs.Prelude.{Result, Ok, Err}
use Rattle.fv_outside.specs.Role.TheVariants.{Input}
use Rattle.fv_outside.specs.headline.Desk.{DeskState}
use Rattle.fv_wav.specs.Stopping.{IsFaultOfInput}
use Rattle.fv_file_tape.specs.declared.incoming.Incoming.{Incoming}
use Rattle.fv_top_files.specs.headline.Sources.{Source}
use Rattle.fv_top_report.specs.declared.refusal.Refusal.{Refusal}
use Rattle.fv_top_report.specs.declared.refusal.Refusal.TheVariants.{ReadFault, NoMemory}
use Rattle.fv_top_files.specs.Loading.{IsLeft}

-- ---- what the files say

-- what is said of an input has this head, and its samples are left or were read
pub record GivesHead (says : Result Source Refusal) (head : Option Incoming) (held : Option (List ℕ)) (left : List ℕ) : Type 0 where
  pub source : Source
  pub says_so : says ≡ Ok source
  pub is : source.head ≡ head
  pub behind : IsLeft head held source.bytes left

-- Why reading of a head stops: it could not be read, or memory ran out, or it is refused. Then the refusal is of this kind, and is
-- what is said of the input.
abbrev pub StopsHead : (Kind : Refusal → Type 0) → (says : Result Source Refusal) → (old new : DeskState) → Refusal → Type 0
StopsHead Kind says old new refusal =
    ((refusal ≡ ReadFault Input) × IsFaultOfInput old new) ⊎ (Kind refusal × (IsTrue old.tells → says ≡ Err refusal)) ⊎ (refusal ≡ NoMemory)
