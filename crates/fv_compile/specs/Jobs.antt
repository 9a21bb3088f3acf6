-- Jobs that stand side by side (this project's profile).
use Rattle.std.specs.Prelude.{ℕ, ◌<◌, ◌^◌, List, length, slice_index_or}
use Rattle.std.specs.List.{sum_by}
use Rattle.fv_signal.specs.declared.signal.Signal.{Signal}
use Rattle.fv_signal.specs.declared.signal.Signal.TheVariants.{Input, Const, Control, Point, Delay, Back, Member, Read, Write}
use Rattle.fv_signal.specs.headline.Value.{Graph}
use Rattle.fv_compile.specs.declared.job.Job.{Job}

-- a signal names an input and a control below these numbers
abbrev pub NamesBelow : (inputs controls : ℕ) → Signal → Type 0
NamesBelow inputs controls (Input k) = k < inputs
NamesBelow inputs controls (Const n) = Unit {0}
NamesBelow inputs controls (Control k) = k < controls
NamesBelow inputs controls (Point op args) = Unit {0}
NamesBelow inputs controls (Delay x d max) = Unit {0}
NamesBelow inputs controls (Back group k) = Unit {0}
NamesBelow inputs controls (Member group k) = Unit {0}
NamesBelow inputs controls (Read table r) = Unit {0}
NamesBelow inputs controls (Write table w x r) = Unit {0}

-- each signal of the graph names inputs and controls below these numbers
abbrev pub ReadsWithin : (inputs controls : ℕ) → Graph → Type 0
ReadsWithin inputs controls g = (s : ℕ) (d : Signal) → s < length g.signals → NamesBelow inputs controls (slice_index_or g.signals s d)

-- all inputs, controls and outputs of the jobs
abbrev pub inputs_of : List Job → ℕ
inputs_of jobs = sum_by (λ (j : Job). j.inputs) jobs

abbrev pub controls_of : List Job → ℕ
controls_of jobs = sum_by (λ (j : Job). j.controls) jobs

abbrev pub outputs_of : List Job → ℕ
outputs_of jobs = sum_by (λ (j : Job). length j.graph.outputs) jobs

-- Each graph names only inputs and controls of its own, and the numbers of all of them have 32 bits.
pub record CanBeJoined (jobs : List Job) : Type 0 where
  pub reads : (k : ℕ) (d : Job) → k < length jobs → (let j = slice_index_or jobs k d in ReadsWithin j.inputs j.controls j.graph)
  pub inputs : inputs_of jobs < 2 ^ 32
  pub controls : controls_of jobs < 2 ^ 32
