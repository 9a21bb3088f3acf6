-- When graphs side by side give what diagrams side by side give (this project's profile).
use Rattle.std.specs.Prelude.{◌≡◌, ℕ, ◌<◌, List, length, slice_index_or}
use Rattle.fv_propagate.specs.Value.{Graph}
use Rattle.fv_diagram.specs.headline.Diagram.{inputs, outputs}
use Rattle.fv_propagate.specs.headline.Propagated.{NamesWithin, Propagates}
use Rattle.fv_compile.specs.declared.job.Job.{Job}
use Rattle.fv_compile.specs.Joined.{IsJoined}
use Rattle.fv_compile.specs.headline.Parts.{Part, side_by_side}
use Rattle.fv_compile.specs.Parts.{AreWellFormed, spans_of}

-- the job's graph is that of the part
pub record IsOfPart (job : Job) (p : Part) : Type 0 where
  pub inputs : job.inputs ≡ inputs p.diagram
  pub controls : job.controls ≡ length p.spans
  pub width : length job.graph.outputs ≡ outputs p.diagram
  pub propagates : Propagates p.diagram p.spans job.graph

-- each job's graph is that of the part with the job's number
pub record AreOfParts (jobs : List Job) (ps : List Part) : Type 0 where
  pub long : length jobs ≡ length ps
  pub well : AreWellFormed ps
  pub each : (k : ℕ) (j : Job) (p : Part) → k < length jobs → IsOfPart (slice_index_or jobs k j) (slice_index_or ps k p)

-- The graphs of parts side by side give what the parts side by side give, on all frames and all controls in their spans.
abbrev pub JoinedPropagates : Graph → Type 0
JoinedPropagates f = (jobs : List Job) (ps : List Part) → AreOfParts jobs ps → IsJoined jobs f → Propagates (side_by_side 0 ps) (spans_of ps) f

-- They have as many outputs as the parts side by side.
abbrev pub JoinedAreWide : Graph → Type 0
JoinedAreWide f = (jobs : List Job) (ps : List Part) → AreOfParts jobs ps → IsJoined jobs f → length f.outputs ≡ outputs (side_by_side 0 ps)

-- each job's graph names only inputs and controls that its part has
abbrev pub NameOwn : List Job → List Part → Type 0
NameOwn jobs ps =
    (k : ℕ) (j : Job) (p : Part) → k < length jobs →
    let job = slice_index_or jobs k j in
    let part = slice_index_or ps k p in NamesWithin part.diagram job.graph

-- Where that is so, they name only inputs and controls that the parts side by side have.
abbrev pub JoinedNames : Graph → Type 0
JoinedNames f = (jobs : List Job) (ps : List Part) → AreOfParts jobs ps → NameOwn jobs ps → IsJoined jobs f → NamesWithin (side_by_side 0 ps) f
