-- What a graph is in which others stand side by side (this project's profile).
use Rattle.std.specs.Prelude.{◌≡◌, ℕ, ◌+◌, ◌<◌, List, length, take, drop, map, flat_map, slice_index_or}
use Rattle.fv_signal.specs.Frames.{Frame, Stream}
use Rattle.fv_analysis.specs.headline.Stands.{StandsAt}
use Rattle.fv_signal.specs.declared.signal.Signal.{Signal}
use Rattle.fv_signal.specs.declared.signal.Signal.TheVariants.{Input, Control, Delay}
use Rattle.fv_signal.specs.headline.Value.{Graph, value, IsGraph}
use Rattle.fv_compile.specs.declared.job.Job.{Job}
use Rattle.fv_compile.specs.Jobs.{ReadsWithin, inputs_of, controls_of, outputs_of}
use Rattle.fv_compile.specs.headline.Parts.{part_frames}

-- the controls after the first ones
abbrev pub part_controls : (first : ℕ) → (ℕ → Stream) → ℕ → Stream
part_controls first c k t = c (first + k) t

-- output j of a graph
abbrev pub output : Graph → ℕ → ℕ
output g j = slice_index_or g.outputs j 0

-- Each output of job k has at every time the value that it has in the job's own graph, on the job's columns of the frames and
-- on its controls.
abbrev pub KeepsValues : List Job → Graph → Type 0
KeepsValues jobs f =
    (k : ℕ) (d : Job) → k < length jobs →
    let job = slice_index_or jobs k d in
    let first = take k jobs in
    (j : ℕ) → j < length job.graph.outputs → (X : List Frame) (c : ℕ → Stream) (t : ℕ) →
    value f (output f (outputs_of first + j)) X c t
    ≡ value job.graph (output job.graph j) (part_frames (inputs_of first) job.inputs X) (part_controls (controls_of first) c) t

-- a delay of some job has this greatest number
pub record HasDelay (jobs : List Job) (max : ℕ) : Type 0 where
  pub number : ℕ
  pub within : number < length jobs
  pub s : ℕ
  pub x : ℕ
  pub by : ℕ
  pub stands : (d : Job) → StandsAt (let job = slice_index_or jobs number d in job.graph) s (Delay x by max)

-- some job's graph names this number by such a signal: the number of an input or a control, where those of the jobs before it come
-- first
pub record IsNamed (count : List Job → ℕ) (such : ℕ → Signal) (jobs : List Job) (n : ℕ) : Type 0 where
  pub number : ℕ
  pub within : number < length jobs
  pub own : ℕ
  pub is : n ≡ count (take number jobs) + own
  pub s : ℕ
  pub stands : (d : Job) → StandsAt (let job = slice_index_or jobs number d in job.graph) s (such own)

-- f is the graphs of the jobs side by side
pub record IsJoined (jobs : List Job) (f : Graph) : Type 0 where
  pub finished : IsGraph f
  pub values : KeepsValues jobs f
  pub width : length f.outputs ≡ outputs_of jobs
  pub tables : f.tables ≡ flat_map (λ (j : Job). j.graph.tables) jobs
  pub delays : (s x by max : ℕ) → StandsAt f s (Delay x by max) → HasDelay jobs max
  pub reads : ReadsWithin (inputs_of jobs) (controls_of jobs) f
  -- the graph names no input and no control that none of their graphs names
  pub inputs : (s i : ℕ) → StandsAt f s (Input i) → IsNamed inputs_of Input jobs i
  pub controls : (s k : ℕ) → StandsAt f s (Control k) → IsNamed controls_of Control jobs k
