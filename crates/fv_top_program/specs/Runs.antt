-- What calls say beside `headline/Runs`: what each job of a file answers, beside the others (this project's profile).
use Rattle.std.specs.Prelude.{◌≡◌, ℕ, ◌<◌, List, [], length, Ok, slice_index_or}
use Rattle.fv_diagram.specs.headline.Diagram.{outputs}
use Rattle.fv_jobs.specs.headline.Jobs.{jobs_in}
use Rattle.fv_top_program.specs.headline.Compiled.{Compiled}
use Rattle.fv_top_program.specs.headline.Racks.{EachIs, RackIs, rack_of}
use Rattle.fv_top_program.specs.headline.Runs.{JobsRun, AnswerAlone, output_at, own_changes, own_frames}

-- In each run of several jobs each of them answers what its program answers alone.
abbrev pub JobsAnswer : Type 0
JobsAnswer = (r : JobsRun) → AnswerAlone r

-- A file of jobs that is a program is the rack of the programs that its texts are.
abbrev pub RacksAreJobs : Type 0
RacksAreJobs = (file : List ℕ) (c : Compiled) → RackIs file (Ok c) → (ps : List Compiled) × EachIs 0 (jobs_in file) (Ok ps) × (rack_of ps ≡ c)

-- So two runs that agree on the text, the columns and the changes of a job agree on its outputs, whatever the other jobs are.
abbrev pub RunsAgree : Type 0
RunsAgree =
    (a b : JobsRun) (k i : ℕ) (d : Compiled) → k < length a.texts → i < length b.texts → slice_index_or a.texts k [] ≡ slice_index_or b.texts i [] →
    let p = slice_index_or a.programs k d in
    own_changes a k p ≡ own_changes b i p → own_frames a k p ≡ own_frames b i p →
    (j t : ℕ) → j < outputs p.diagram → t < length a.frames → output_at a k j t ≡ output_at b i j t
