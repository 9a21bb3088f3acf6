-- Diagrams side by side, each with controls of its own (this project's profile).
use Rattle.std.specs.Prelude.{ℕ, ◌+◌, List, [], ◌∷◌, length, take, drop, map, pos}
use Rattle.std.specs.List.{sum_by}
use Rattle.fv_propagate.specs.Interval.{Interval}
use Rattle.fv_diagram.specs.Primitive.TheVariants.{Cut}
use Rattle.fv_diagram.specs.headline.Diagram.{Diagram, Primitive, Constant, Control, Slot, Wave, Table, Bind, Par, Seq, Split, Merge, Rec}
use Rattle.fv_diagram.specs.headline.Diagram.{inputs, outputs}
use Rattle.fv_diagram.specs.headline.Streams.{Frame}

-- the diagram with n controls before its own
abbrev pub shifted : (n : ℕ) → Diagram → Diagram
shifted n (Primitive p) = Primitive p
shifted n (Constant z) = Constant z
shifted n (Control k) = Control (n + k)
shifted n (Slot s) = Slot s
shifted n (Wave w) = Wave w
shifted n (Table T writes) = Table T writes
shifted n (Bind s a) = Bind s (shifted n a)
shifted n (Par a b) = Par (shifted n a) (shifted n b)
shifted n (Seq a b) = Seq (shifted n a) (shifted n b)
shifted n (Split a b) = Split (shifted n a) (shifted n b)
shifted n (Merge a b) = Merge (shifted n a) (shifted n b)
shifted n (Rec a b) = Rec (shifted n a) (shifted n b)

-- a diagram, and the spans of its controls
pub record Part : Type 0 where
  pub diagram : Diagram
  pub spans : List Interval

-- a diagram that takes nothing and gives nothing: a number that is cut
abbrev pub nothing : Diagram
nothing = Seq (Constant (pos 0)) (Primitive Cut)

-- the parts side by side, with n controls before theirs
abbrev pub side_by_side : (n : ℕ) → List Part → Diagram
side_by_side n [] = nothing
side_by_side n (p ∷ ps) = Par (shifted n p.diagram) (side_by_side (n + length p.spans) ps)

-- the n columns of the frames after the first ones
abbrev pub part_frames : (first n : ℕ) → List Frame → List Frame
part_frames first n X = map (λ x. take n (drop first x)) X

-- the number of inputs of all parts
abbrev pub inputs_of : List Part → ℕ
inputs_of ps = sum_by (λ (p : Part). inputs p.diagram) ps

-- the number of outputs of all parts
abbrev pub outputs_of : List Part → ℕ
outputs_of ps = sum_by (λ (p : Part). outputs p.diagram) ps
