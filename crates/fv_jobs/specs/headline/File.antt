-- What a file of jobs is read as (this project's profile).
use Rattle.std.specs.Prelude.{ℕ, nat_le, List, length, Result, Ok, Err, if◌then◌else◌}
use Rattle.fv_base.specs.declared.limits.TheConstants.{LONGEST_TEXT, MOST_JOBS}
use Rattle.fv_base.specs.declared.role.Role.TheVariants.{Program}
use Rattle.fv_jobs.specs.declared.refusal.JobsRefusal.{JobsRefusal}
use Rattle.fv_jobs.specs.declared.refusal.JobsRefusal.TheVariants.{TextTooLong, RackSize}
use Rattle.fv_jobs.specs.headline.Jobs.{jobs_in}

-- the jobs, where a file may have that many
abbrev pub counted : List (List ℕ) → Result (List (List ℕ)) JobsRefusal
counted jobs = if nat_le (length jobs) MOST_JOBS then Ok jobs else Err (RackSize (length jobs))

-- The jobs of a file, or why it is refused: for its length, or for the number of its jobs.
abbrev pub jobs_file : List ℕ → Result (List (List ℕ)) JobsRefusal
jobs_file bytes = if nat_le (length bytes) LONGEST_TEXT then counted (jobs_in bytes) else Err (TextTooLong Program)
