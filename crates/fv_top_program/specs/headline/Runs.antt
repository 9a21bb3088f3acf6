-- A run of several jobs, and what each of them answers alone (this project's profile).
use Rattle.std.specs.Prelude.{◌≡◌, ℕ, ◌+◌, ◌<◌, List, length, map, take, All, ℤ, Ok, slice_index_or}
use Rattle.fv_diagram.specs.Frames.{Frame, Stream, column}
use Rattle.fv_diagram.specs.declared.control.ControlInfo.{ControlInfo}
use Rattle.fv_diagram.specs.headline.Diagram.{inputs, outputs}
use Rattle.fv_diagram.specs.headline.Samples.{no_slots}
use Rattle.fv_diagram.specs.headline.Streams.{run}
use Rattle.fv_jobs.specs.Change.{Change}
use Rattle.fv_jobs.specs.Streams.{control_streams}
use Rattle.fv_jobs.specs.headline.Changes.{changes_of, controls_before}
use Rattle.fv_compile.specs.headline.Parts.{inputs_of, outputs_of, part_frames}
use Rattle.fv_top_program.specs.headline.Compiled.{Compiled}
use Rattle.fv_top_program.specs.headline.Racks.{EachIs, part_of, rack_of}

-- the numbers with which a program's controls begin
abbrev pub first_values : Compiled → List ℤ
first_values p = map (λ (c : ControlInfo). c.init) p.controls

-- what a program answers on these frames, under these changes of its controls
abbrev pub answer_of : Compiled → List Change → List Frame → List Frame
answer_of p changes X = run p.diagram (control_streams changes (first_values p)) no_slots X

-- A run of several jobs: their texts and the programs that these are, the changes of all controls, and frames as wide as all inputs.
pub record JobsRun : Type 0 where
  pub texts : List (List ℕ)
  pub programs : List Compiled
  pub are : EachIs 0 texts (Ok programs)
  pub changes : List Change
  pub frames : List Frame
  pub wide : All (λ x. length x ≡ inputs (let p = rack_of programs in p.diagram)) frames

-- output j of job k, whose outputs stand after those of the jobs before it
abbrev pub output_at : JobsRun → (k j : ℕ) → Stream
output_at r k j = column (answer_of (rack_of r.programs) r.changes r.frames) (outputs_of (take k (map part_of r.programs)) + j)

-- the inputs of job k, whose program is p: its part of each frame
abbrev pub own_frames : JobsRun → (k : ℕ) → Compiled → List Frame
own_frames r k p = part_frames (inputs_of (take k (map part_of r.programs))) (inputs p.diagram) r.frames

-- the changes of the controls of job k, whose program is p, by the job's own numbers
abbrev pub own_changes : JobsRun → (k : ℕ) → Compiled → List Change
own_changes r k p = changes_of (controls_before (map (λ (q : Compiled). q.controls) r.programs) k) (length p.controls) r.changes

-- Each output of a job is at every time what the job's own program answers, alone on its own inputs and under its own changes.
abbrev pub AnswerAlone : JobsRun → Type 0
AnswerAlone r =
    (k : ℕ) (d : Compiled) → k < length r.programs →
    let p = slice_index_or r.programs k d in
    (j t : ℕ) → j < outputs p.diagram → t < length r.frames → output_at r k j t ≡ column (answer_of p (own_changes r k p) (own_frames r k p)) j t
