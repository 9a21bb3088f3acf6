-- What calls say beside `headline/Parts`: diagrams side by side, each with controls of its own (this project's profile).
use Rattle.std.specs.Prelude.{◌≡◌, ℕ, ◌+◌, ◌<◌, ◌≤◌, List, length, take, flat_map, All, slice_index_or}
use Rattle.std.specs.List.{sum_by}
use Rattle.fv_propagate.specs.Interval.{Interval}
use Rattle.fv_diagram.specs.headline.Diagram.{Diagram, inputs, outputs}
use Rattle.fv_diagram.specs.Diagram.{control_bound, HasNoFreeSlot, IsWellFormed}
use Rattle.fv_diagram.specs.headline.Streams.{Frame, Stream, column, run}
use Rattle.fv_compile.specs.Joined.{part_controls}
use Rattle.fv_compile.specs.headline.Parts.{shifted, Part, side_by_side, part_frames, inputs_of, outputs_of}

-- it answers what the diagram answers on the controls after the first n
abbrev pub ShiftedAnswers : Diagram → Type 0
ShiftedAnswers d = (n : ℕ) (c e : ℕ → Stream) (X : List Frame) → run (shifted n d) c e X ≡ run d (part_controls n c) e X

-- the number of controls of all parts
abbrev pub controls_of : List Part → ℕ
controls_of ps = sum_by (λ (p : Part). length p.spans) ps

-- the spans of all controls
abbrev pub spans_of : List Part → List Interval
spans_of ps = flat_map (λ (p : Part). p.spans) ps

-- each part is well formed
abbrev pub AreWellFormed : List Part → Type 0
AreWellFormed ps = (k : ℕ) (d : Part) → k < length ps → IsWellFormed (let p = slice_index_or ps k d in p.diagram)

-- no slot is free in a part
abbrev pub AreClosed : List Part → Type 0
AreClosed ps = (k : ℕ) (d : Part) → k < length ps → HasNoFreeSlot (let p = slice_index_or ps k d in p.diagram)

-- each part has a span for each control that it names
abbrev pub HaveControls : List Part → Type 0
HaveControls ps = (k : ℕ) (d : Part) → k < length ps → (let p = slice_index_or ps k d in control_bound p.diagram ≤ length p.spans)

-- The diagram has the inputs and outputs of all parts. With n controls before theirs, it names no control after theirs. It is well
-- formed where each part is, and has no free slot where none has.
pub record IsWhole (n : ℕ) (ps : List Part) (d : Diagram) : Type 0 where
  pub inputs : inputs d ≡ inputs_of ps
  pub outputs : outputs d ≡ outputs_of ps
  pub controls : HaveControls ps → control_bound d ≤ n + controls_of ps
  pub well : AreWellFormed ps → IsWellFormed d
  pub closed : AreClosed ps → HasNoFreeSlot d

-- Parts side by side are whole: they have what all parts have.
abbrev pub PartsAreWhole : Type 0
PartsAreWhole = (n : ℕ) (ps : List Part) → IsWhole n ps (side_by_side n ps)

-- Each output of part k is at every time that of the part's own diagram, on the part's columns of the frames and on its controls.
abbrev pub PartsAnswer : Type 0
PartsAnswer =
    (ps : List Part) (c e : ℕ → Stream) (X : List Frame) → AreWellFormed ps → All (λ x. length x ≡ inputs_of ps) X → (k : ℕ) (d : Part) → k < length ps →
    let p = slice_index_or ps k d in
    let first = take k ps in
    (j t : ℕ) → j < outputs p.diagram → t < length X →
    column (run (side_by_side 0 ps) c e X) (outputs_of first + j) t
    ≡ column (run p.diagram (part_controls (controls_of first) c) e (part_frames (inputs_of first) (inputs p.diagram) X)) j t

-- Part k of some parts under some controls, on some frames.
pub record Answered : Type 0 where
  pub parts : List Part
  pub controls : ℕ → Stream
  pub frames : List Frame
  pub number : ℕ
  pub well : AreWellFormed parts
  pub wide : All (λ x. length x ≡ inputs_of parts) frames
  pub within : number < length parts

-- the part that is looked at, with its diagram; below stand its columns, its controls and its output j
abbrev pub own : Answered → Part → Part
own a d = slice_index_or a.parts a.number d

abbrev pub own_frames : Answered → Part → List Frame
own_frames a d = part_frames (inputs_of (take a.number a.parts)) (inputs (let p = own a d in p.diagram)) a.frames

abbrev pub own_controls : Answered → ℕ → Stream
own_controls a = part_controls (controls_of (take a.number a.parts)) a.controls

abbrev pub own_output : Answered → (e : ℕ → Stream) → ℕ → Stream
own_output a e j = column (run (side_by_side 0 a.parts) a.controls e a.frames) (outputs_of (take a.number a.parts) + j)

-- Two runs of parts agree on a part's outputs where they agree on its diagram and columns, and on its controls at the times of the
-- frames. The other parts, columns and controls may be any.
abbrev pub PartsAnswerAlike : Type 0
PartsAnswerAlike =
    (a b : Answered) (d : Part) (e : ℕ → Stream) → own a d ≡ own b d → own_frames a d ≡ own_frames b d →
    let p = own a d in
    ((k t : ℕ) → k < control_bound p.diagram → t < length a.frames → own_controls a k t ≡ own_controls b k t) →
    (j t : ℕ) → j < outputs p.diagram → t < length a.frames → own_output a e j t ≡ own_output b e j t
