-- What calls say beside `headline/File`: what a file of jobs is read as (this project's profile).
use Rattle.std.specs.Prelude.{◌≡◌, ℕ, ◌+◌, List, take, Ok}
use Rattle.fv_base.specs.declared.limits.TheConstants.{LONGEST_TEXT}
use Rattle.fv_jobs.specs.declared.refusal.JobsRefusal.{JobsRefusal}
use Rattle.fv_jobs.specs.declared.refusal.JobsRefusal.TheVariants.{TextTooLong, RackSize, NoMemory}
use Rattle.fv_jobs.specs.headline.File.{jobs_file}

-- the refusal speaks of the file, and not of memory
abbrev pub IsOfJobs : JobsRefusal → Type 0
IsOfJobs (TextTooLong role) = Unit {0}
IsOfJobs (RackSize jobs) = Unit {0}
IsOfJobs NoMemory = ⊥

-- how many bytes of a file are read: one more than its limit shows that it is too long
abbrev pub bytes_read : ℕ
bytes_read = LONGEST_TEXT + 1

-- What these bytes are, the whole file is.
abbrev pub FrontIsEnough : Type 0
FrontIsEnough = (file bytes : List ℕ) → bytes ≡ take bytes_read file → jobs_file file ≡ jobs_file bytes

-- Where they are jobs, they are the whole file.
abbrev pub JobsAreWhole : Type 0
JobsAreWhole = (file bytes : List ℕ) (jobs : List (List ℕ)) → bytes ≡ take bytes_read file → jobs_file bytes ≡ Ok jobs → file ≡ bytes
