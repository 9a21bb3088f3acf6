-- What a file of jobs is, layer by layer: `RackIs` is `Then (Then (Then JobsHave Beside) Delayed) Narrow` (this project's profile).
use Rattle.std.specs.Prelude.{◌≡◌, ℕ, List, Result, Ok}
use Rattle.fv_jobs.specs.declared.refusal.JobsRefusal.{JobsRefusal}
use Rattle.fv_jobs.specs.headline.File.{jobs_file}
use Rattle.fv_top_report.specs.declared.refusal.Refusal.{Refusal}
use Rattle.fv_top_report.specs.headline.Layers.{of_jobs}
use Rattle.fv_top_program.specs.headline.Answers.{Then, Turned}
use Rattle.fv_top_program.specs.headline.Compiled.{Compiled}
use Rattle.fv_top_program.specs.headline.Racks.{EachIs, rack_of}

-- what a file is cut into
abbrev pub JobsAre : List ℕ → Result (List (List ℕ)) JobsRefusal → Type 0
JobsAre file r = jobs_file file ≡ r

-- what a file is up to the programs of its jobs, numbered from 0
abbrev pub JobsHave : List ℕ → Result (List Compiled) Refusal → Type 0
JobsHave file r = Then (Turned of_jobs JobsAre) (EachIs 0) file r

-- they stand side by side
abbrev pub Beside : List Compiled → Result Compiled Refusal → Type 0
Beside ps r = Ok (rack_of ps) ≡ r
