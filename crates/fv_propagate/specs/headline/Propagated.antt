-- When a graph of signals gives what a diagram gives.
use Rattle.std.specs.Prelude.{◌≡◌, ◌⊎◌, ℕ, ◌<◌, List, length, All, slice_index, slice_index_or, FitsSigned}
use Rattle.std.specs.Int.{w32}
use Rattle.fv_num.specs.headline.Frames.{Frame, Stream, column}
use Rattle.fv_num.specs.headline.Interval.{Interval}
use Rattle.fv_signal.specs.declared.signal.Signal.{Signal}
use Rattle.fv_signal.specs.declared.signal.Signal.TheVariants.{Input, Const, Control, Point, Delay, Back, Member, Read, Write}
use Rattle.fv_signal.specs.headline.Value.{Graph, value}
use Rattle.fv_diagram.specs.headline.Diagram.{Diagram, inputs}
use Rattle.fv_diagram.specs.headline.Diagram as diagram
use Rattle.fv_diagram.specs.headline.Streams.{run}
use Rattle.fv_interval.specs.headline.SpanHooks.{control_span}
use Rattle.fv_interval.specs.headline.Laws.{IsOf}

-- Frames of a diagram's width, whose numbers have 32 bits, and controls in their spans.
pub record AreTaken (d : Diagram) (spans : List Interval) (X : List Frame) (c : ℕ → Stream) : Type 0 where
  pub wide : All (λ x. length x ≡ inputs d) X
  pub small : (i t : ℕ) → FitsSigned w32 (column X i t)
  pub controls : (k t : ℕ) → IsOf (control_span spans k) (c k t)

-- The graph's outputs have at each time the values of the diagram's outputs, on all frames and all controls in their spans.
abbrev pub Propagates : Diagram → List Interval → Graph → Type 0
Propagates d spans g =
    (X : List Frame) (c e : ℕ → Stream) → AreTaken d spans X c → (j t : ℕ) → j < length g.outputs → t < length X →
    value g (slice_index g.outputs j) X c t ≡ column (run d c e X) j t

-- the diagram has the control
abbrev pub HasControl : Diagram → ℕ → Type 0
HasControl (diagram.Primitive p) k = ⊥
HasControl (diagram.Constant n) k = ⊥
HasControl (diagram.Control j) k = j ≡ k
HasControl (diagram.Slot s) k = ⊥
HasControl (diagram.Wave w) k = ⊥
HasControl (diagram.Table T writes) k = ⊥
HasControl (diagram.Bind s a) k = HasControl a k
HasControl (diagram.Par a b) k = HasControl a k ⊎ HasControl b k
HasControl (diagram.Seq a b) k = HasControl a k ⊎ HasControl b k
HasControl (diagram.Split a b) k = HasControl a k ⊎ HasControl b k
HasControl (diagram.Merge a b) k = HasControl a k ⊎ HasControl b k
HasControl (diagram.Rec a b) k = HasControl a k ⊎ HasControl b k

-- a signal names an input and a control that the diagram has
abbrev pub NamesOf : Diagram → Signal → Type 0
NamesOf d (Input k) = k < inputs d
NamesOf d (Const n) = Unit {0}
NamesOf d (Control k) = HasControl d k
NamesOf d (Point op args) = Unit {0}
NamesOf d (Delay x back max) = Unit {0}
NamesOf d (Back group k) = Unit {0}
NamesOf d (Member group k) = Unit {0}
NamesOf d (Read table r) = Unit {0}
NamesOf d (Write table w x r) = Unit {0}

-- the graph names only inputs and controls that the diagram has
abbrev pub NamesWithin : Diagram → Graph → Type 0
NamesWithin d g = (s : ℕ) (x : Signal) → s < length g.signals → NamesOf d (slice_index_or g.signals s x)
