-- A file of jobs that is a program, and the programs that it is of.
use Rattle.std.proofs.Common.{◌≡◌, ℕ, Bool, true, false, List, Ok, Err, refl, ap, ◌∙◌, subst, sym}
use Rattle.std.specs.Prelude.{Result, length, nat_le, if◌then◌else◌}
use Rattle.fv_base.specs.declared.limits.TheConstants.{LONGEST_TEXT, MOST_JOBS}
use Rattle.fv_jobs.specs.headline.File.{jobs_file, counted}
use Rattle.fv_jobs.specs.headline.Jobs.{jobs_in}
use Rattle.fv_jobs.specs.declared.refusal.JobsRefusal.{JobsRefusal}
use Rattle.fv_top_report.specs.headline.Layers.{of_jobs}
use Rattle.fv_top_program.specs.headline.Answers.{Then, Turned}
use Rattle.fv_top_program.specs.headline.Compiled.{Compiled}
use Rattle.fv_top_program.specs.headline.Program.{delays_in, first_bad}
use Rattle.fv_top_program.specs.headline.Racks.{EachIs, RackIs, rack_of}
use Rattle.fv_top_program.specs.inner.Layers.{Delayed, Narrow}
use Rattle.fv_top_program.specs.inner.RackLayers.{Beside, JobsAre, JobsHave}
use Rattle.fv_top_program.specs.Runs.{RacksAreJobs}
use Rattle.fv_top_program.proofs.lemmas.AnswerLaws.{kept_is}
use Rattle.fv_top_program.proofs.Answering.{same_width, same_delays}
use Rattle.fv_top_program.proofs.Each.{then_parts}

-- what a test lets through is what it was asked of
let_through : {A E : Type 0} (b : Bool) (r : Result A E) (e : E) (a : A) → (if b then r else Err e) ≡ Ok a → r ≡ Ok a
let_through true r e a is = is
let_through false r e a is = absurd cc

-- the texts of a file that is not refused are its jobs
texts_are : (file : List ℕ) (texts : List (List ℕ)) → jobs_file file ≡ Ok texts → jobs_in file ≡ texts
texts_are file texts is =
    let few = let_through (nat_le (length file) LONGEST_TEXT) (counted (jobs_in file)) _ texts is in
    let same : Ok (jobs_in file) ≡ Ok texts = let_through (nat_le (length (jobs_in file)) MOST_JOBS) (Ok (jobs_in file)) _ texts few in
    cc

pub racks_are_jobs : RacksAreJobs
racks_are_jobs file c h =
    let wide = then_parts (Then (Then JobsHave Beside) Delayed) Narrow file c (Ok c) refl h in
    let sum = then_parts (Then JobsHave Beside) Delayed file wide.0 (Ok wide.0) refl wide.1 in
    let rack = then_parts JobsHave Beside file sum.0 (Ok sum.0) refl sum.1 in
    let have = then_parts (Turned of_jobs JobsAre) (EachIs 0) file rack.0 (Ok rack.0) refl rack.1 in
    let texts = texts_are file have.0 (kept_is of_jobs JobsAre file have.0 have.1) in
    let one : rack_of rack.0 ≡ sum.0 = let is : Ok (rack_of rack.0) ≡ Ok sum.0 = rack.2 in cc in
    let same : sum.0 ≡ c = same_delays sum.0 wide.0 (first_bad (delays_in sum.0)) sum.2 ∙ same_width wide.0 c wide.2 in
    (rack.0, subst (λ (ts : List (List ℕ)). EachIs 0 ts (Ok rack.0)) (sym texts) have.2, one ∙ same)
