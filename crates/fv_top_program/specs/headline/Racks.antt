-- What a file of jobs is: its programs side by side, or refused for its first fault (this project's profile).
use Rattle.std.specs.Prelude.{◌≡◌, ℕ, suc, List, [], ◌∷◌, map, Result, Ok, Err}
use Rattle.fv_interval.specs.headline.Controls.{spans_of}
use Rattle.fv_jobs.specs.headline.File.{jobs_file}
use Rattle.fv_jobs.specs.headline.Labels.{controls_of}
use Rattle.fv_compile.specs.headline.Parts.{Part, side_by_side}
use Rattle.fv_top_report.specs.declared.refusal.Refusal.{Refusal}
use Rattle.fv_top_report.specs.declared.refusal.Refusal.TheVariants as no
use Rattle.fv_top_report.specs.headline.Layers.{of_jobs}
use Rattle.fv_top_report.specs.headline.Lines.{row_of}
use Rattle.fv_top_program.specs.headline.Answers.{Then, Turned, Gives}
use Rattle.fv_top_program.specs.headline.Compiled.{Compiled}
use Rattle.fv_top_program.specs.headline.Program.{TextIs, checked, narrow}

-- ---- several programs side by side

-- the part that a program is
abbrev pub part_of : Compiled → Part
part_of p = record { diagram = p.diagram; spans = spans_of p.controls }

-- Programs side by side: the diagram that stands for all of them, and the controls of all, labelled `k/g`.
abbrev pub rack_of : List Compiled → Compiled
rack_of ps = record { diagram = side_by_side 0 (map part_of ps); controls = controls_of (map (λ (p : Compiled). p.controls) ps) }

-- ---- the file

-- job k is refused where its text is, for what has this number
abbrev pub refused_job : (k : ℕ) → Refusal → Refusal
refused_job k e = no.Job k (row_of e).number

-- a program, and the programs after it
abbrev pub with_first : Compiled → Result (List Compiled) Refusal → Result (List Compiled) Refusal
with_first p (Ok ps) = Ok (p ∷ ps)
with_first p (Err e) = Err e

-- What is said of programs after a first one, said of all of them.
pub record WithFirst (Behind : Result (List Compiled) Refusal → Type 0) (p : Compiled) (r : Result (List Compiled) Refusal) : Type 0 where
  pub behind : Result (List Compiled) Refusal
  pub is_behind : Behind behind
  pub is : with_first p behind ≡ r

-- The programs that these texts are, of which the first is that of job k; or the refusal of the first that is none.
abbrev pub EachIs : (k : ℕ) → List (List ℕ) → Result (List Compiled) Refusal → Type 0
EachIs k [] r = r ≡ Ok []
EachIs k (text ∷ texts) r = Then (Turned (refused_job k) TextIs) (WithFirst (EachIs (suc k) texts)) text r

-- What a file of jobs is: its jobs, then their programs side by side, and of these all delays and all channels; or the first
-- refusal on the way.
abbrev pub RackIs : List ℕ → Result Compiled Refusal → Type 0
RackIs = Then (Then (Then (Then (Turned of_jobs (Gives jobs_file)) (EachIs 0)) (Gives (λ ps. Ok (rack_of ps)))) (Gives checked)) (Gives narrow)
