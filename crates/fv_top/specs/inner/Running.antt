-- How the parts of a run end.
use Rattle.std.specs.Prelude.{◌≡◌, ◌⊎◌, ℕ, IsTrue, List, [], ◌∷◌, ◌++◌, ℤ}
use Rattle.fv_base.specs.declared.role.Role.{Role}
use Rattle.fv_base.specs.declared.role.Role.TheVariants.{Program, Controls, Input, Output, Report}
use Rattle.fv_base.specs.headline.Lists.{IsPrefixOf}
use Rattle.fv_outside.specs.headline.Requests.{Request, to_read}
use Rattle.fv_outside.specs.headline.Desk.{DeskState, GoesOn, HasFault, KeepsFaults}
use Rattle.fv_outside.specs.Desk.{KeepsQuiet, Appends}
use Rattle.fv_top_words.specs.headline.Runs.{Run}
use Rattle.fv_top_words.specs.headline.Commands.{Playing, Checking, Making}
use Rattle.fv_file_tape.specs.headline.Tapes.{KeepsOutput}
use Rattle.fv_top_report.specs.declared.refusal.Refusal.{Refusal}
use Rattle.fv_top_report.specs.declared.refusal.Refusal.TheVariants.{WriteFault}
use Rattle.fv_top_files.specs.headline.Loading.{reading}
use Rattle.fv_top.specs.headline.Meant.{check_meant, make_meant, made_sum, written_by}
use Rattle.fv_top_program.specs.headline.Compiled.{Compiled}
use Rattle.fv_top_program.specs.headline.Program.{TextIs}
use Rattle.fv_top_report.specs.headline.Lines.{refused_line}
use Rattle.fv_top.specs.headline.Stages.{Ends}
use Rattle.fv_top.specs.headline.Promise.{HasProgram, Stage, ReadProgram, ReadScript, ReadHead, Fit, rules_of, stages_of}
use Rattle.fv_top.specs.headline.Promise.{IsMade, IsReadBy, IsRead, KeepsOthers, IsBegunLine, IsRefusedFor, HasDone}
use Rattle.fv_top.specs.headline.Promise.{LeavesOutput, CutsShort, Reports, IsFaultOf, HandsOn}

-- The desk was asked for this, nothing was written, and only these roles were read.
pub record Reaches (Reads : Role → Type 0) (asked : List Request) (old new : DeskState) : Type 0 where
  pub quiet : KeepsQuiet old new
  pub requests : new.requests ≡ old.requests ++ asked
  pub left : IsTrue old.tells → (r : Role) → (Reads r → ⊥) → new.left r ≡ old.left r

-- no fault was counted but the refusal's
abbrev pub CountsFaultOf : Refusal → (old new : DeskState) → Type 0
CountsFaultOf refusal old new = (r : Role) → (IsFaultOf r refusal → ⊥) → new.faults r ≡ old.faults r

-- ---- before anything is written

-- all that is asked for by then
abbrev pub asked_before : Run → List Request
asked_before run = to_read Program run.program ∷ (reading Controls run.controls ++ reading Input run.input)

-- the stages before anything is written
abbrev pub stages_before : List Stage
stages_before = ReadProgram ∷ ReadScript ∷ ReadHead ∷ Fit ∷ []

-- A stage that reads cannot go on.
pub record StopsBefore (run : Run) (old new : DeskState) (refusal : Refusal) : Type 0 where
  pub asked : List Request
  pub reaches : Reaches (IsReadBy (Playing run)) asked old new
  pub ends : Ends (rules_of (Playing run) old) old new stages_before refusal asked
  pub faults : CountsFaultOf refusal old new

-- ---- a check

-- The program was read alone, and its line was reported.
pub record Checks (name : List ℕ) (old new : DeskState) : Type 0 where
  pub goes_on : GoesOn old new
  pub requests : new.requests ≡ old.requests ++ to_read Program name ∷ []
  pub others : KeepsOthers (IsReadBy (Checking name)) old new
  pub faults : KeepsFaults old new
  pub begins : new.begins Output ≡ old.begins Output
  pub whole : IsTrue old.tells → new.left Program ≡ []
  pub told : IsTrue old.tells → (p : HasProgram TextIs name old.files) × ((r : Role) → new.written r ≡ written_by (check_meant p.compiled) old r)

-- It could not be, before its refusal is reported.
pub record StopsCheck (name : List ℕ) (old new : DeskState) (refusal : Refusal) : Type 0 where
  pub goes_on : GoesOn old new
  pub others : KeepsOthers (IsReadBy (Checking name)) old new
  pub requests : new.requests ≡ old.requests ++ to_read Program name ∷ []
  pub ends : Ends (rules_of (Checking name) old) old new (stages_of (Checking name)) refusal (to_read Program name ∷ [])
  pub output : KeepsOutput old new
  pub begun : List ℕ
  pub appended : IsTrue old.tells → new.written Report ≡ old.written Report ++ begun
  pub is_begun : (begun ≡ [])
      ⊎ ((refusal ≡ WriteFault Report) × (IsTrue old.tells → (p : HasProgram TextIs name old.files) × IsPrefixOf begun (check_meant p.compiled).line))
  pub faults : CountsFaultOf refusal old new

-- ---- a make

-- The line of a program that was made was reported.
pub record Makes (voices frames workers : ℕ) (old new : DeskState) : Type 0 where
  pub goes_on : GoesOn old new
  pub requests : new.requests ≡ old.requests ++ []
  pub others : KeepsOthers (IsReadBy (Making voices frames workers)) old new
  pub faults : KeepsFaults old new
  pub begins : new.begins Output ≡ old.begins Output
  pub compiled : Compiled
  pub made : IsMade voices compiled
  pub told : IsTrue old.tells → (r : Role) → new.written r ≡ written_by (make_meant compiled voices frames) old r

-- It could not be, before its refusal is reported.
pub record StopsMake (voices frames workers : ℕ) (old new : DeskState) (refusal : Refusal) : Type 0 where
  pub goes_on : GoesOn old new
  pub others : KeepsOthers (IsReadBy (Making voices frames workers)) old new
  pub requests : new.requests ≡ old.requests ++ []
  pub ends : Ends (rules_of (Making voices frames workers) old) old new (stages_of (Making voices frames workers)) refusal []
  pub output : KeepsOutput old new
  pub begun : List ℕ
  pub appended : IsTrue old.tells → new.written Report ≡ old.written Report ++ begun
  pub is_begun : (begun ≡ [])
      ⊎ ((refusal ≡ WriteFault Report)
      × (IsTrue old.tells → (can : (p : Compiled) × IsMade voices p) × IsPrefixOf begun (make_meant can.0 voices frames).line))
  pub faults : CountsFaultOf refusal old new

-- the sum of what the program gives on its noise
pub record HasSum (voices frames : ℕ) (sum : ℤ) : Type 0 where
  pub compiled : Compiled
  pub made : IsMade voices compiled
  pub is : sum ≡ made_sum compiled voices frames

-- ---- how it ends

-- how a run that is done ends
pub record EndsDone (words : List (List ℕ)) (frames : ℕ) (old new : DeskState) : Type 0 where
  pub goes_on : GoesOn old new
  pub others : KeepsOthers (IsRead words) old new
  pub played : HasDone words frames old new

-- how a run stops, before its refusal is reported
pub record Stopped (words : List (List ℕ)) (old new : DeskState) (refusal : Refusal) : Type 0 where
  pub goes_on : GoesOn old new
  pub others : KeepsOthers (IsRead words) old new
  pub cause : IsRefusedFor words old new refusal
  pub output : LeavesOutput words refusal old new
  pub cut : CutsShort words refusal old new
  pub begun : List ℕ
  pub appended : IsTrue old.tells → new.written Report ≡ old.written Report ++ begun
  pub is_begun : (begun ≡ []) ⊎ ((refusal ≡ WriteFault Report) × IsBegunLine words old begun)
  pub faults : CountsFaultOf refusal old new

-- a refusal's line is appended to the report, or a part of it where the report failed
pub record ReportsLine (refusal : Refusal) (old new : DeskState) : Type 0 where
  pub line : List ℕ
  pub is_line : (line ≡ refused_line refusal) ⊎ (IsPrefixOf line (refused_line refusal) × HasFault Report old new)
  pub appends : Appends Report line old new

-- how a run that is refused ends
pub record EndsRefused (words : List (List ℕ)) (old new : DeskState) (refusal : Refusal) : Type 0 where
  pub goes_on : GoesOn old new
  pub others : KeepsOthers (IsRead words) old new
  pub cause : IsRefusedFor words old new refusal
  pub output : LeavesOutput words refusal old new
  pub cut : CutsShort words refusal old new
  pub report : Reports words refusal old new
  pub hands_on : HandsOn refusal old new
