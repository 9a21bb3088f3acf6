-- What the words ask for (this project's profile).
use Rattle.std.specs.Prelude.{ℕ, List, [], ◌∷◌, Option, Some, None, is_some, Result, Ok, Err, bytes_eq, codes, if◌then◌else◌}
use Rattle.std.specs.List.{list_any}
use Rattle.fv_base.specs.declared.limits.TheConstants.{MOST_MADE, MOST_VOICES, MOST_WORKERS}
use Rattle.fv_top_words.specs.declared.cause.Cause.{Cause}
use Rattle.fv_top_words.specs.declared.cause.Cause.TheVariants.{Form}
use Rattle.fv_top_words.specs.headline.Texts.{Texts, texts_of}
use Rattle.fv_top_words.specs.headline.Numbers.{◌>>=◌, number_in}
use Rattle.fv_top_words.specs.headline.Runs.{Run, run_of, by_kinds, of_jobs, within_or}

-- what the words ask for: to play a program, to check one, or to make one of some voices and play it
pub data Job : Type 0 where
  Playing : (run : Run) → Job
  Checking : (program : List ℕ) → Job
  Making : (voices frames workers : ℕ) → Job

-- a run that is done in this manner
abbrev pub play_of : (Run → Run) → Texts → Result Job Cause
play_of how t = do
  run ← run_of t
  Ok (Playing (how run))

-- the check that the plain word PROGRAM asks for
abbrev pub check_of : List (List ℕ) → Result Job Cause
check_of (program ∷ []) = Ok (Checking program)
check_of _ = Err Form

-- a make with each number in its range
abbrev pub made : (voices frames workers : ℕ) → Result Job Cause
made voices frames workers = do
  v ← within_or 1 MOST_VOICES 1 (Some voices)
  f ← within_or 1 MOST_MADE 1 (Some frames)
  w ← within_or 1 MOST_WORKERS 1 (Some workers)
  Ok (Making v f w)

-- the make that the plain words VOICES FRAMES WORKERS ask for
abbrev pub make_of : List (List ℕ) → Result Job Cause
make_of (voices ∷ frames ∷ workers ∷ []) = do
  v ← number_in voices
  f ← number_in frames
  w ← number_in workers
  made v f w
make_of _ = Err Form

-- a command without options
abbrev pub bare : Texts → Result Job Cause → Result Job Cause
bare t answer = if list_any (λ o. is_some o.1) t.options then Err Form else answer

-- what these texts ask of a command, if there are any: a run may be one whose files may be AU files, or one of the programs of a
-- file of jobs, side by side
abbrev pub command_in : (command : List ℕ) → Option Texts → Result Job Cause
command_in command None = Err Form
command_in command (Some t) =
    if bytes_eq command (codes "run") then play_of (λ run. run) t
    else (if bytes_eq command (codes "au") then play_of by_kinds t
    else (if bytes_eq command (codes "rack") then play_of of_jobs t
    else (if bytes_eq command (codes "check") then bare t (check_of t.plain)
    else (if bytes_eq command (codes "make") then bare t (make_of t.plain)
    else Err Form))))

-- What the words ask for, the program's own name first, or the first cause to refuse them.
abbrev pub job_in : List (List ℕ) → Result Job Cause
job_in (own ∷ command ∷ words) = command_in command (texts_of words)
job_in _ = Err Form
