-- What loading of a file leaves of the desk, and why it stops.
use Rattle.std.specs.Prelude.{◌≡◌, ℕ, ◌+◌, ◌≤◌, IsSome, List, [], ◌∷◌, drop, Option}
use Rattle.std.specs.Prelude.{Some, None, Result, Ok, Bool, nat_le, ◌&&◌, ◌||◌, ◌==◌}
use Rattle.fv_outside.specs.Role.{Role}
use Rattle.fv_outside.specs.headline.Requests.{Request, to_read}
use Rattle.fv_outside.specs.headline.Desk.{File, file_named}
use Rattle.fv_diagram.specs.declared.control.ControlInfo.{ControlInfo}
use Rattle.fv_control.specs.declared.script.Change.{Change}
use Rattle.fv_top_words.specs.declared.manner.InputKind.{InputKind}
use Rattle.fv_file_tape.specs.declared.incoming.Incoming.{Incoming}
use Rattle.fv_top_files.specs.headline.Inputs.{read_bytes}
use Rattle.fv_top_files.specs.headline.Sources.{Source, found, script_of, source_of}
use Rattle.fv_top_report.specs.declared.refusal.Refusal.{Refusal}

-- a file that may be named is asked for where it is
abbrev pub reading : Role → Option (List ℕ) → List Request
reading role None = []
reading role (Some name) = to_read role name ∷ []

-- a file that is named is there
abbrev pub IsThere : Option (List ℕ) → List File → Type 0
IsThere None files = Unit {0}
IsThere (Some name) files = IsSome (file_named name files)

-- ---- what the files say

-- The script that may be named says this of the controls.
pub record HasScript (name : Option (List ℕ)) (files : List File) (controls : List ControlInfo) (says : Result (List Change) Refusal) : Type 0 where
  pub bytes : Option (List ℕ)
  pub file : found files name ≡ Some bytes
  pub is : script_of controls bytes ≡ says

-- The input of this kind that may be named is this.
pub record HasInput (kind : InputKind) (name : Option (List ℕ)) (files : List File) (says : Result Source Refusal) : Type 0 where
  pub bytes : Option (List ℕ)
  pub file : found files name ≡ Some bytes
  pub is : source_of kind bytes ≡ says

-- what is left of a file with this head is what follows the samples that are read
abbrev pub IsRest : Option Incoming → (bytes left : List ℕ) → Type 0
IsRest None bytes left = Unit {0}
IsRest (Some h) bytes left = left ≡ drop (h.place + read_bytes h) bytes

-- Nothing was read of the input after its whole frames, or after its samples where their size is not stated.
pub record LeavesRest (kind : InputKind) (name : Option (List ℕ)) (files : List File) (left : List ℕ) : Type 0 where
  pub source : Source
  pub input : HasInput kind name files (Ok source)
  pub rest : IsRest source.head source.bytes left

-- of a file with this head no more was read than the head and its samples
abbrev pub IsWithin : Option Incoming → (bytes left : List ℕ) → Type 0
IsWithin None bytes left = Unit {0}
IsWithin (Some h) bytes left = (k : ℕ) × (k ≤ read_bytes h) × (left ≡ drop (h.place + k) bytes)

-- Of the input no more was read than the samples that are read.
pub record ReadsWithin (kind : InputKind) (name : Option (List ℕ)) (files : List File) (left : List ℕ) : Type 0 where
  pub source : Source
  pub input : HasInput kind name files (Ok source)
  pub rest : IsWithin source.head source.bytes left

-- the numbers of the refusals of an input's head
abbrev pub is_of_head : ℕ → Bool
is_of_head n = (nat_le 34 n && nat_le n 37) || (n == 44) || (n == 45)
