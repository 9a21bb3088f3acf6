-- What calls say beside `headline/Kinds`: what the file of a run's program is, by its kind (this project's profile).
use Rattle.std.specs.Prelude.{◌≡◌, ℕ, IsTrue, List, take, Result, Ok}
use Rattle.fv_top_words.specs.declared.manner.ProgramKind.{ProgramKind}
use Rattle.fv_top_report.specs.declared.refusal.Refusal.{Refusal}
use Rattle.fv_top_report.specs.headline.Lines.{row_of}
use Rattle.fv_top_program.specs.Answers.{IsOnce, IsSome, RefusesOthers}
use Rattle.fv_top_program.specs.headline.Compiled.{Compiled}
use Rattle.fv_top_program.specs.Program.{bytes_read}
use Rattle.fv_top_program.specs.headline.Kinds.{FileIs, is_of_kind}

-- the refusal is one of them
abbrev pub IsOfKind : ProgramKind → Refusal → Type 0
IsOfKind kind refusal = IsTrue (is_of_kind kind (row_of refusal).number)

-- A file is one thing at most: one program, or refused for one thing.
abbrev pub IsOneFile : Type 0
IsOneFile = (kind : ProgramKind) → IsOnce (FileIs kind)

-- Each file is something: a program, or refused.
abbrev pub IsSomeFile : Type 0
IsSomeFile = (kind : ProgramKind) → IsSome (λ (file : List ℕ). Unit {0}) (FileIs kind)

-- What is no program is refused for something.
abbrev pub IsOneOrOther : Type 0
IsOneOrOther = (kind : ProgramKind) → RefusesOthers (FileIs kind)

-- What the bytes are that are read of a file, the whole file is.
abbrev pub FrontIsEnough : Type 0
FrontIsEnough =
    (kind : ProgramKind) (file bytes : List ℕ) (r : Result Compiled Refusal) → bytes ≡ take bytes_read file → FileIs kind bytes r → FileIs kind file r

-- Where they are a program, they are the whole file.
abbrev pub ProgramIsWhole : Type 0
ProgramIsWhole = (kind : ProgramKind) (file bytes : List ℕ) (p : Compiled) → bytes ≡ take bytes_read file → FileIs kind bytes (Ok p) → file ≡ bytes
