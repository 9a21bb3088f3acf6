-- Graphs of diagrams, side by side in one (this project's profile).
use Rattle.std.specs.Prelude.{◌≡◌, ℕ, ◌<◌, List, length, slice_index_or}
use Rattle.fv_signal.specs.headline.Value.{Graph}
use Rattle.fv_diagram.specs.headline.Diagram.{inputs}
use Rattle.fv_compile.specs.declared.job.Job.{Job}
use Rattle.fv_compile.specs.Joined.{IsJoined}
use Rattle.fv_compile.specs.headline.Parts.{Part, side_by_side}
use Rattle.fv_compile.specs.Parts.{AreWellFormed, spans_of}
use Rattle.fv_engine_render.specs.headline.Plans.{IsGraphOf}

-- the job's graph is one of the part's diagram, and the job has its inputs and controls
pub record IsJobOf (job : Job) (p : Part) : Type 0 where
  pub inputs_are : job.inputs ≡ inputs p.diagram
  pub controls_are : job.controls ≡ length p.spans
  pub of : IsGraphOf p.diagram p.spans job.graph

-- so it is with each job and the part of its number
pub record AreJobsOf (jobs : List Job) (ps : List Part) : Type 0 where
  pub long : length jobs ≡ length ps
  pub well : AreWellFormed ps
  pub each : (k : ℕ) (j : Job) (p : Part) → k < length jobs → IsJobOf (slice_index_or jobs k j) (slice_index_or ps k p)

-- The graphs of such jobs side by side are a graph of the parts' diagrams side by side.
abbrev pub JoinedIsGraph : Graph → Type 0
JoinedIsGraph f = (jobs : List Job) (ps : List Part) → AreJobsOf jobs ps → IsJoined jobs f → IsGraphOf (side_by_side 0 ps) (spans_of ps) f
