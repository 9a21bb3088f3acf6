-- What calls say beside `headline/Program`: what a program's text is: a program, or refused for its first fault (Faust manual, cut down by
-- this project's profile).
use Rattle.std.specs.Prelude.{◌≡◌, ℕ, ◌+◌, IsTrue, List, take, Result, Ok, Err}
use Rattle.fv_base.specs.declared.limits.TheConstants.{LONGEST_TEXT}
use Rattle.fv_top_program.specs.Answers.{IsOnce, IsSome, RefusesOthers}
use Rattle.fv_top_report.specs.headline.Lines.{row_of}
use Rattle.fv_top_program.specs.headline.Compiled.{Compiled}
use Rattle.fv_top_report.specs.declared.refusal.Refusal.{Refusal}
use Rattle.fv_top_program.specs.headline.Program.{is_of_program, TextIs}

-- the refusal is one of a program
abbrev pub IsOfText : Refusal → Type 0
IsOfText refusal = IsTrue (is_of_program (row_of refusal).number)

-- ---- what a text is

-- The text is this program.
abbrev pub IsProgram : List ℕ → Compiled → Type 0
IsProgram text p = TextIs text (Ok p)

-- The text is refused for this.
abbrev pub IsRefusedText : List ℕ → Refusal → Type 0
IsRefusedText text refusal = TextIs text (Err refusal)

-- A text is one thing at most: one program, or refused for one thing.
abbrev pub IsOneText : Type 0
IsOneText = IsOnce TextIs

-- Each text is something: a program, or refused.
abbrev pub IsSomeText : Type 0
IsSomeText = IsSome (λ (text : List ℕ). Unit {0}) TextIs

-- What is no program is refused for something.
abbrev pub IsOneOrOther : Type 0
IsOneOrOther = RefusesOthers TextIs

-- how many bytes of a text are read: one more than its limit shows that it is too long
abbrev pub bytes_read : ℕ
bytes_read = LONGEST_TEXT + 1

-- What these bytes are, the whole text is.
abbrev pub FrontIsEnough : Type 0
FrontIsEnough = (text bytes : List ℕ) (r : Result Compiled Refusal) → bytes ≡ take bytes_read text → TextIs bytes r → TextIs text r

-- Where they are a program, they are the whole text.
abbrev pub ProgramIsWhole : Type 0
ProgramIsWhole = (text bytes : List ℕ) (p : Compiled) → bytes ≡ take bytes_read text → IsProgram bytes p → text ≡ bytes
