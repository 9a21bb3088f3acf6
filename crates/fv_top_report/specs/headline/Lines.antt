-- One row for each refusal, and the line that a run appends to the report (this project's profile).
use Rattle.std.specs.Prelude.{ℕ, ℤ, List, [], ◌∷◌, ◌++◌, flat_map, codes, decimal}
use Rattle.std.specs.Fmt.{signed_decimal}
use Rattle.fv_outside.specs.Role.{Role}
use Rattle.fv_outside.specs.Role.TheVariants.{Program, Input, Controls, Output, Report}
use Rattle.fv_arity.specs.declared.refusal.ArityKind.{ArityKind}
use Rattle.fv_arity.specs.declared.refusal.ArityKind.TheVariants.{Seq, Split, Merge, RecOut, RecIn}
use Rattle.fv_top_words.specs.declared.cause.Cause.{Cause}
use Rattle.fv_top_words.specs.declared.cause.Cause.TheVariants.{Form, Number, Range, Vectors, Together, Same}
use Rattle.fv_rules.specs.declared.refusal.TableCause.{TableCause}
use Rattle.fv_rules.specs.declared.refusal.TableCause.TheVariants as table_cause
use Rattle.fv_top_report.specs.declared.refusal.Refusal.{Refusal}
use Rattle.fv_top_report.specs.declared.refusal.Refusal.TheVariants as no

-- ---- exit statuses

-- a file could not be read or written
abbrev pub fault_status : ℕ
fault_status = 1

-- the words are refused
abbrev pub usage_status : ℕ
usage_status = 2

-- the program is refused
abbrev pub program_status : ℕ
program_status = 3

-- the WAV or AU file or the control script is refused
abbrev pub file_status : ℕ
file_status = 4

-- memory ran out
abbrev pub memory_status : ℕ
memory_status = 5

-- ---- the words that a line has

-- the word of a role
abbrev pub role_word : Role → List ℕ
role_word Program = codes "program"
role_word Input = codes "input"
role_word Controls = codes "controls"
role_word Output = codes "output"
role_word Report = codes "report"

-- the word of a cause
abbrev pub cause_word : Cause → List ℕ
cause_word Form = codes "form"
cause_word Number = codes "number"
cause_word Range = codes "range"
cause_word Vectors = codes "vectors"
cause_word Together = codes "together"
cause_word Same = codes "same"

-- the word of a composition that fails
abbrev pub kind_word : ArityKind → List ℕ
kind_word Seq = codes "seq"
kind_word Split = codes "split"
kind_word Merge = codes "merge"
kind_word RecOut = codes "recout"
kind_word RecIn = codes "recin"

-- the word of what is wrong with a table
abbrev pub table_word : TableCause → List ℕ
table_word table_cause.Head = codes "head"
table_word table_cause.Size = codes "size"
table_word table_cause.Primitive = codes "primitive"

-- ---- the rows

-- what a refusal's line says: its number, its name and its fields as they are printed; and the exit status
pub record Row : Type 0 where
  pub number : ℕ
  pub status : ℕ
  pub name : List ℕ
  pub fields : List (List ℕ)

-- a row of these four
abbrev pub row : (number status : ℕ) → (name : List ℕ) → (fields : List (List ℕ)) → Row
row number status name fields = record { number = number; status = status; name = name; fields = fields }

-- a text that is too long is a script, or a program's
abbrev pub text_status : Role → ℕ
text_status Controls = file_status
text_status role = program_status

-- the row of each refusal
abbrev pub row_of : Refusal → Row
row_of (no.Usage cause) = row 1 usage_status (codes "Usage") (cause_word cause ∷ [])
row_of (no.ReadFault role) = row 2 fault_status (codes "ReadFault") (role_word role ∷ [])
row_of (no.WriteFault role) = row 3 fault_status (codes "WriteFault") (role_word role ∷ [])
row_of (no.TextTooLong role) = row 4 (text_status role) (codes "TextTooLong") (role_word role ∷ [])
row_of (no.BadByte line column) = row 5 program_status (codes "BadByte") (decimal line ∷ decimal column ∷ [])
row_of (no.Unclosed line column) = row 6 program_status (codes "Unclosed") (decimal line ∷ decimal column ∷ [])
row_of (no.RealLiteral line column) = row 7 program_status (codes "RealLiteral") (decimal line ∷ decimal column ∷ [])
row_of (no.LiteralTooLarge line column) = row 8 program_status (codes "LiteralTooLarge") (decimal line ∷ decimal column ∷ [])
row_of (no.Syntax line column) = row 9 program_status (codes "Syntax") (decimal line ∷ decimal column ∷ [])
row_of (no.Unsupported word) = row 10 program_status (codes "Unsupported") (word ∷ [])
row_of (no.Redefined name) = row 11 program_status (codes "Redefined") (name ∷ [])
row_of (no.RepeatedName name) = row 12 program_status (codes "RepeatedName") (name ∷ [])
row_of (no.RuleWidths line column) = row 13 program_status (codes "RuleWidths") (decimal line ∷ decimal column ∷ [])
row_of no.NoProcess = row 14 program_status (codes "NoProcess") []
row_of (no.SizeBudget size) = row 15 program_status (codes "SizeBudget") (decimal size ∷ [])
row_of (no.Arity kind left right) = row 16 program_status (codes "Arity") (kind_word kind ∷ decimal left ∷ decimal right ∷ [])
row_of (no.UnknownName name) = row 17 program_status (codes "UnknownName") (name ∷ [])
row_of (no.NotANumber line column) = row 18 program_status (codes "NotANumber") (decimal line ∷ decimal column ∷ [])
row_of (no.IterationCount count) = row 19 program_status (codes "IterationCount") (signed_decimal count ∷ [])
row_of (no.NoRule line column) = row 20 program_status (codes "NoRule") (decimal line ∷ decimal column ∷ [])
row_of (no.NotADiagram line column) = row 21 program_status (codes "NotADiagram") (decimal line ∷ decimal column ∷ [])
row_of (no.TooManyArguments given inputs) = row 22 program_status (codes "TooManyArguments") (decimal given ∷ decimal inputs ∷ [])
row_of no.EvalBudget = row 23 program_status (codes "EvalBudget") []
row_of (no.ControlClash label) = row 24 program_status (codes "ControlClash") (label ∷ [])
row_of (no.ControlBounds label) = row 25 program_status (codes "ControlBounds") (label ∷ [])
row_of (no.DelayNegative least) = row 26 program_status (codes "DelayNegative") (signed_decimal least ∷ [])
row_of (no.DelayTooLong greatest) = row 27 program_status (codes "DelayTooLong") (signed_decimal greatest ∷ [])
row_of (no.DelayBudget sum) = row 28 program_status (codes "DelayBudget") (decimal sum ∷ [])
row_of (no.Channels have want) = row 29 program_status (codes "Channels") (decimal have ∷ decimal want ∷ [])
row_of (no.ControlLine line) = row 30 file_status (codes "ControlLine") (decimal line ∷ [])
row_of (no.ControlUnknown line) = row 31 file_status (codes "ControlUnknown") (decimal line ∷ [])
row_of (no.ControlRange line) = row 32 file_status (codes "ControlRange") (decimal line ∷ [])
row_of (no.ControlOrder line) = row 33 file_status (codes "ControlOrder") (decimal line ∷ [])
row_of (no.NotWave place) = row 34 file_status (codes "NotWave") (decimal place ∷ [])
row_of (no.WaveTruncated place) = row 35 file_status (codes "WaveTruncated") (decimal place ∷ [])
row_of (no.WaveFormat place) = row 36 file_status (codes "WaveFormat") (decimal place ∷ [])
row_of (no.WaveChunks place) = row 37 file_status (codes "WaveChunks") (decimal place ∷ [])
row_of (no.OutputTooLong bytes) = row 38 file_status (codes "OutputTooLong") (decimal bytes ∷ [])
row_of no.FramesNeeded = row 39 usage_status (codes "FramesNeeded") []
row_of no.NoMemory = row 40 memory_status (codes "NoMemory") []
row_of (no.TableForm cause) = row 41 program_status (codes "TableForm") (table_word cause ∷ [])
row_of (no.TableBudget sum) = row 42 program_status (codes "TableBudget") (decimal sum ∷ [])
row_of (no.Nesting line column) = row 43 program_status (codes "Nesting") (decimal line ∷ decimal column ∷ [])
row_of (no.AuFormat place) = row 44 file_status (codes "AuFormat") (decimal place ∷ [])
row_of (no.AuTruncated place) = row 45 file_status (codes "AuTruncated") (decimal place ∷ [])
row_of (no.Job job number) = row 46 program_status (codes "Job") (decimal job ∷ decimal number ∷ [])
row_of (no.RackSize jobs) = row 47 program_status (codes "RackSize") (decimal jobs ∷ [])

-- ---- the lines

-- each field, one space before it
abbrev pub spaced : List (List ℕ) → List ℕ
spaced fields = flat_map (λ field. codes " " ++ field) fields

-- `refused`, the number, the name and each field, one space between
abbrev pub row_line : Row → List ℕ
row_line r = codes "refused " ++ decimal r.number ++ codes " " ++ r.name ++ spaced r.fields ++ codes "\n"

-- the line of a refusal
abbrev pub refused_line : Refusal → List ℕ
refused_line refusal = row_line (row_of refusal)

-- the line of a program that was checked
abbrev pub check_line : (inputs outputs controls size delays : ℕ) → List ℕ
check_line inputs outputs controls size delays =
    codes "inputs " ++ decimal inputs ++ codes " outputs " ++ decimal outputs ++ codes " controls " ++ decimal controls
    ++ codes " size " ++ decimal size ++ codes " delays " ++ decimal delays ++ codes "\n"

-- the line of a program that was made
abbrev pub made_line : (voices frames : ℕ) → (sum : ℤ) → List ℕ
made_line voices frames sum =
    codes "made " ++ decimal voices ++ codes " voices, " ++ decimal frames ++ codes " frames, sum " ++ signed_decimal sum ++ codes "\n"

-- the line of a run that is done
abbrev pub done_line : (frames : ℕ) → List ℕ
done_line frames = codes "done " ++ decimal frames ++ codes " frames\n"
