-- Laws of the control streams.
use Rattle.std.specs.Prelude.{◌≡◌, ℕ, ◌<◌, ◌≤◌, true, List, [], ◌∷◌, length, take, drop, slice_set, slice_index_or, ◌++◌, Some, Ok, ℤ, pos}
use Rattle.fv_diagram.specs.Words.{argument}
use Rattle.fv_diagram.specs.declared.control.ControlInfo.{ControlInfo}
use Rattle.fv_control.specs.headline.Script.{script, is_within, no_control, Request, request_of, frame_of, value_of}
use Rattle.std.specs.List.{AllByRecursion}
use Rattle.fv_control.specs.declared.script.Change.{Change}
use Rattle.fv_control.specs.headline.Streams.{control_streams}

-- no change is after frame f and at time t or before
abbrev pub NoneBetween : (f t : ℕ) → List Change → Type 0
NoneBetween f t changes = AllByRecursion (λ c. f < c.frame → t < c.frame) changes

-- Between two changes a control is constant.
abbrev pub Hold : Type 0
Hold =
    (changes : List Change) (initial : List ℤ) (k f t : ℕ) → f ≤ t → NoneBetween f t changes
    → control_streams changes initial k t ≡ control_streams changes initial k f

-- each change is at the frame of the one before it, or after
abbrev pub NeverFall : ℕ → List Change → Type 0
NeverFall least [] = Unit {0}
NeverFall least (c ∷ cs) = (least ≤ c.frame) × NeverFall c.frame cs

-- a change of a control that is there, to a value within its range
pub record IsOfControls (controls : List ControlInfo) (c : Change) : Type 0 where
  pub there : c.control < length controls
  pub within : is_within (slice_index_or controls c.control no_control) c.value ≡ true

-- What a script spells is in order, and of its controls.
abbrev pub IsLawful : Type 0
IsLawful =
    (controls : List ControlInfo) (bytes : List ℕ) (changes : List Change) → script controls bytes ≡ Ok changes
    → NeverFall 0 changes × AllByRecursion (IsOfControls controls) changes

-- some change
abbrev pub no_change : Change
no_change = record { frame = 0; control = 0; value = pos 0 }

-- the numbers of the controls after some changes, one after another
abbrev pub applied : List ℤ → List Change → List ℤ
applied values [] = values
applied values (c ∷ cs) = applied (slice_set values c.control c.value) cs

-- The numbers after the changes up to a frame are those of the streams at that frame.
abbrev pub Held : Type 0
Held =
    (changes : List Change) (initial : List ℤ) (n f k : ℕ) → k < length initial
    → AllByRecursion (λ c. c.frame ≤ f) (take n changes) → AllByRecursion (λ c. f < c.frame) (drop n changes)
    → argument (applied initial (take n changes)) k ≡ control_streams changes initial k f

-- A line spells a request: a frame, one space, a label that is not empty, one space, a value.
pub record Spells (line : List ℕ) (r : Request) : Type 0 where
  pub frame : List ℕ
  pub value : List ℕ
  pub is : line ≡ frame ++ 32 ∷ (r.label ++ 32 ∷ value)
  pub framed : frame_of frame ≡ Some r.frame
  pub named : 1 ≤ length r.label
  pub valued : value_of value ≡ Some r.value

-- A line is read as just the request that it spells.
abbrev pub IsReadAsSpelled : Type 0
IsReadAsSpelled = (line : List ℕ) (r : Request) → (request_of line ≡ Some r → Spells line r) × (Spells line r → request_of line ≡ Some r)
