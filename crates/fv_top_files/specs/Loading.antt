-- What calls say beside `headline/Loading`: what loading of a file leaves of the desk, and why it stops.
use Rattle.std.specs.Prelude.{◌≡◌, ◌≢◌, ◌⊎◌, ℕ, ◌+◌, ◌<◌, ◌≤◌, ◌^◌, IsTrue, IsSome, List, [], ◌++◌, length, drop, Option}
use Rattle.std.specs.Prelude.{Some, None, Ok, true, false}
use Rattle.fv_outside.specs.Role.{Role}
use Rattle.fv_outside.specs.headline.Desk.{DeskState, File, file_named, HasFault, IsUnfailing}
use Rattle.fv_outside.specs.Desk.{KeepsQuiet, KeepsFaultsBut}
use Rattle.fv_outside.specs.declared.transfer.ReadError.{ReadError}
use Rattle.fv_outside.specs.declared.transfer.ReadError.TheVariants.{Failed, NoMemory as OutOfMemory}
use Rattle.fv_top_words.specs.declared.manner.InputKind.{InputKind}
use Rattle.fv_file_tape.specs.declared.incoming.Incoming.{Incoming}
use Rattle.fv_top_files.specs.Inputs.{IsIncoming}
use Rattle.fv_top_files.specs.headline.Sources.{Source}
use Rattle.fv_top_report.specs.declared.refusal.Refusal.{Refusal}
use Rattle.fv_top_report.specs.declared.refusal.Refusal.TheVariants.{ReadFault, NoMemory}
use Rattle.fv_top_report.specs.headline.Lines.{row_of}
use Rattle.fv_top_files.specs.headline.Loading.{reading, IsThere, HasInput, is_of_head}

-- The desk was asked for this file alone. Nothing changed but the bytes left of the role, where a file is named, and its counts.
pub record ReadsFile (role : Role) (name : Option (List ℕ)) (old new : DeskState) : Type 0 where
  pub quiet : KeepsQuiet old new
  pub requests : new.requests ≡ old.requests ++ reading role name
  pub others : IsTrue old.tells → (r : Role) → (IsSome name → r ≢ role) → new.left r ≡ old.left r
  pub other_faults : KeepsFaultsBut role old new

-- a fault of the role was counted, and it was not sure that the file is there and no call fails
pub record CannotRead (role : Role) (name : Option (List ℕ)) (old new : DeskState) : Type 0 where
  pub named : IsSome name
  pub fault : HasFault role old new
  pub unsure : IsTrue old.tells → IsUnfailing role old × IsThere name old.files → ⊥

-- Why loading of a file stops: it could not be read, or memory ran out, or it is refused. Then the refusal is of this kind, and P
-- says it of the file.
abbrev pub StopsLoading : Role → (name : Option (List ℕ)) → (Kind P : Refusal → Type 0) → (old new : DeskState) → Refusal → Type 0
StopsLoading role name Kind P old new refusal =
    ((refusal ≡ ReadFault role) × CannotRead role name old new) ⊎ (Kind refusal × (IsTrue old.tells → P refusal)) ⊎ (refusal ≡ NoMemory)

-- the file of this name has these bytes, where the desk tells them
abbrev pub IsFile : (name bytes : List ℕ) → DeskState → Type 0
IsFile name bytes desk = IsTrue desk.tells → file_named name desk.files ≡ Some bytes

-- the refusal of what could not be read
abbrev pub refusal_of_read : Role → ReadError → Refusal
refusal_of_read role Failed = ReadFault role
refusal_of_read role OutOfMemory = NoMemory

-- ---- what the files say

-- Where the head of a file was read, its samples are left, or they were read up to the file's end, and none is left.
abbrev pub IsLeft : Option Incoming → (held : Option (List ℕ)) → (bytes left : List ℕ) → Type 0
IsLeft None held bytes left = Unit {0}
IsLeft (Some h) None bytes left = (h.is_open ≡ false) × (left ≡ drop h.place bytes) × (h.place ≤ length bytes)
IsLeft (Some h) (Some held) bytes left =
    (h.is_open ≡ true) × (held ≡ drop h.place bytes) × (h.place ≤ length bytes) × (h.data_bytes ≡ length held) × (left ≡ [])

-- the input that may be named has this head, and its samples are left or were read
pub record HasHead (kind : InputKind) (name : Option (List ℕ)) (files : List File) (head : Option Incoming) (held : Option (List ℕ)) (left : List ℕ)
    : Type 0 where
  pub source : Source
  pub input : HasInput kind name files (Ok source)
  pub is : source.head ≡ head
  pub behind : IsLeft head held source.bytes left

-- a head, and the place of its samples, which no sum of them and their bytes goes beyond
abbrev pub IsPlaced : Incoming → Type 0
IsPlaced h = IsIncoming h × (h.place < 2 ^ 45)

-- the refusal is one of the head of an input
abbrev pub IsHeadRefusal : Refusal → Type 0
IsHeadRefusal refusal = IsTrue (is_of_head (row_of refusal).number)
