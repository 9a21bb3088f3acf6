-- How a file of jobs ends: as programs side by side, or refused at one of its steps.
use Rattle.std.proofs.Common.{◌≡◌, ◌⊎◌, ℕ, ◌<◌, ◌≤◌, Bool, true, false, List, length, Ok, Err, refl, sym, ap, ap₂, ◌∙◌, subst, inl, inr, ⊎_elim, arith}
use Rattle.std.specs.Prelude.{IsTrue, Result, nat_le, sum, if◌then◌else◌}
use Rattle.std.proofs.lemmas.Bool.Decides.{nat_tests}
use Rattle.fv_diagram.specs.headline.Diagram.{inputs, outputs}
use Rattle.fv_interval.specs.declared.refusal.DelayRefusal.TheVariants as delay
use Rattle.fv_interval.specs.headline.Delays.{amounts}
use Rattle.fv_interval.specs.Delays.{AreDelays}
use Rattle.fv_base.specs.declared.role.Role.TheVariants.{Program}
use Rattle.fv_base.specs.declared.limits.TheConstants.{MOST_JOBS}
use Rattle.fv_jobs.specs.declared.refusal.JobsRefusal.{JobsRefusal}
use Rattle.fv_jobs.specs.declared.refusal.JobsRefusal.TheVariants as jobs
use Rattle.fv_jobs.specs.headline.File.{counted, jobs_file}
use Rattle.fv_jobs.specs.File.{IsOfJobs}
use Rattle.fv_jobs.specs.headline.Jobs.{jobs_in}
use Rattle.fv_top_report.specs.declared.refusal.Refusal.{Refusal}
use Rattle.fv_top_report.specs.declared.refusal.Refusal.TheVariants as no
use Rattle.fv_top_report.specs.headline.Layers.{of_jobs}
use Rattle.fv_top_report.specs.headline.Lines.{row_of}
use Rattle.fv_top_program.specs.headline.Answers.{Then, kept, turned, stops, goes_on}
use Rattle.fv_top_program.specs.headline.Compiled.{Compiled}
use Rattle.fv_top_program.specs.headline.Program.{delayed, delays_in, first_bad, narrow, with_channels}
use Rattle.fv_top_program.proofs.lemmas.Delayed.{delays_pass, delays_stop}
use Rattle.fv_top_words.specs.declared.manner.ProgramKind.TheVariants as kinds
use Rattle.fv_top_program.specs.headline.Kinds.{is_of_kind}
use Rattle.fv_top_program.specs.Kinds.{IsOfKind}
use Rattle.fv_top_program.specs.headline.Racks.{EachIs, RackIs, rack_of}
use Rattle.fv_top_program.specs.inner.RackLayers.{Beside, JobsHave}
use Rattle.fv_base.specs.declared.limits.TheConstants.{DELAY_BUDGET}

-- what is judged by these channels is judged by the program's
pub width_is : (p : Compiled) (n m : ℕ) (r : Result Compiled Refusal) → n ≡ inputs p.diagram → m ≡ outputs p.diagram → with_channels n m p ≡ r → narrow p ≡ r
width_is p n m r i o is = ap₂ (λ x y. with_channels x y p) (sym i) (sym o) ∙ is

-- ---- its jobs

pub few_jobs : (file : List ℕ) (texts : List (List ℕ)) → jobs_file file ≡ Ok texts → length texts ≤ MOST_JOBS
few_jobs file texts is = go (nat_le (length file) 1048576) is
  where
    few : (b : Bool) → nat_le (length (jobs_in file)) MOST_JOBS ≡ b
        → (if b then Ok (jobs_in file) else Err (jobs.RackSize (length (jobs_in file)))) ≡ Ok texts → length texts ≤ MOST_JOBS
    few true t e =
        let same : jobs_in file ≡ texts = cc in
        subst (λ (xs : List (List ℕ)). length xs ≤ MOST_JOBS) same (grind (arith, nat_tests))
    few false t e = absurd cc

    go : (b : Bool) → (if b then counted (jobs_in file) else Err (jobs.TextTooLong Program)) ≡ Ok texts → length texts ≤ MOST_JOBS
    go true e = few (nat_le (length (jobs_in file)) MOST_JOBS) refl e
    go false e = absurd cc

-- a refusal with one of the numbers of a file of jobs
of_number : (e : Refusal) (n : ℕ) → (row_of e).number ≡ n → IsTrue (is_of_kind kinds.Rack n) → IsOfKind kinds.Rack e
of_number e n is of = subst (λ (m : ℕ). IsTrue (is_of_kind kinds.Rack m)) (sym is) of

-- what is said of a refused file of jobs
abbrev pub IsRefused : (file : List ℕ) → Refusal → Type 0
IsRefused file e = (e ≡ no.NoMemory) ⊎ (IsOfKind kinds.Rack e × RackIs file (Err e))

pub jobs_stop : (file : List ℕ) (f : JobsRefusal) (e : Refusal) → e ≡ of_jobs f → (IsOfJobs f → jobs_file file ≡ Err f) → IsRefused file e
jobs_stop file (jobs.TextTooLong role) e is h =
    let w : RackIs file (Err (no.TextTooLong role)) = stops _ (stops _ (stops _ (stops _ (turned (jobs.TextTooLong role) (h tt))))) in
    rw is (inr (refl, w))
jobs_stop file (jobs.RackSize n) e is h =
    let w : RackIs file (Err (no.RackSize n)) = stops _ (stops _ (stops _ (stops _ (turned (jobs.RackSize n) (h tt))))) in
    rw is (inr (refl, w))
jobs_stop file jobs.NoMemory e is h = inl is

module _ (file : List ℕ) (texts : List (List ℕ)) (cut : jobs_file file ≡ Ok texts) where
  -- a text is refused
  pub each_stops : (e : Refusal) → (e ≡ no.NoMemory) ⊎ (((row_of e).number ≡ 46) × EachIs 0 texts (Err e)) → IsRefused file e
  each_stops e (inl m) = inl m
  each_stops e (inr h) = inr (of_number e 46 h.0 refl, stops e (stops e (stops e (goes_on texts (Err e) (kept texts cut) h.1))))

  module _ (ps : List Compiled) (each : EachIs 0 texts (Ok ps)) where
    abbrev rack : Compiled
    rack = rack_of ps

    beside : Then JobsHave Beside file (Ok rack)
    beside = goes_on ps (Ok rack) (goes_on texts (Ok ps) (kept texts cut) each) refl

    module _ (sum_is : (n : ℕ) × (n ≡ sum (amounts (delays_in rack)))) (good : AreDelays (delays_in rack)) where
      -- all delays are too long
      pub sum_stops : (e : Refusal) → (e ≡ no.DelayBudget sum_is.0) × (DELAY_BUDGET < sum_is.0) → IsRefused file e
      sum_stops e h =
          let is = h.0 in
          let refused = delays_stop rack (delay.DelayBudget sum_is.0) e h.0 (good, sum_is.1, h.1) in
          ⊎_elim inl (λ r. inr (of_number e 28 (ap (λ (x : Refusal). (row_of x).number) is) refl, stops e (goes_on rack (Err e) beside r.1))) refused

      module _ (within : sum_is.0 ≤ DELAY_BUDGET) where
        passed : delayed rack (first_bad (delays_in rack)) ≡ Ok rack
        passed =
            let same = sum_is.1 in
            delays_pass rack (amounts (delays_in rack)) (record { each = good; are = refl; within = omega (arith, within, same) })

        -- or all channels are too many
        pub width_stops : (e : Refusal) → ((row_of e).number ≡ 29) × (narrow rack ≡ Err e) → IsRefused file e
        width_stops e h = inr (of_number e 29 h.0 refl, goes_on rack (Err e) (goes_on rack (Ok rack) beside passed) h.1)

        -- or nothing is
        pub rack_is : narrow rack ≡ Ok rack → RackIs file (Ok rack)
        rack_is wide = goes_on rack (Ok rack) (goes_on rack (Ok rack) beside passed) wide
