-- The jobs of a rack that is played (this project's profile).
use Rattle.std.specs.Prelude.{◌≡◌, ℕ, IsTrue, List}
use Rattle.fv_outside.specs.headline.Desk.{DeskState, File}
use Rattle.fv_top_program.specs.Jobs.{jobs_in}
use Rattle.fv_top_words.specs.declared.manner.ProgramKind.TheVariants.{Rack}
use Rattle.fv_top_words.specs.headline.Runs.{Run}
use Rattle.fv_top_words.specs.headline.Commands.{Playing}
use Rattle.fv_top_program.specs.headline.Racks.{rack_of}
use Rattle.fv_top_program.specs.headline.Runs.{JobsRun, AnswerAlone}
use Rattle.fv_top_files.specs.headline.Output.{present_in}
use Rattle.fv_top.specs.headline.Promise.{Asks, Plays}

-- What is played is the rack of a file's jobs, on the frames of the input and under the changes of the script: each job's texts, programs
-- and outputs. Each output of a job is what the job's own program answers, alone on its own columns and under its own changes.
pub record PlaysJobs {run : Run} {files : List File} (p : Plays run files) : Type 0 where
  pub jobs : JobsRun
  pub texts : jobs.texts ≡ jobs_in p.of.text
  pub rack : rack_of jobs.programs ≡ p.of.compiled
  pub changes : jobs.changes ≡ p.changes
  pub frames : jobs.frames ≡ present_in p.format p.source
  pub alone : AnswerAlone jobs

-- what is played of a rack, where the words ask for one
abbrev pub HasJobs : (words : List (List ℕ)) → DeskState → Type 0
HasJobs words old =
    (run : Run) → Asks words (Playing run) → run.manner.program ≡ Rack → IsTrue old.tells → (p : Plays run old.files) → PlaysJobs p
