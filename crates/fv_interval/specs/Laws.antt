-- What calls say beside `headline/Laws`: laws on the spans of wires: what they are for (this project's profile).
use Rattle.std.specs.Prelude.{◌≡◌, ℕ, ◌<◌, List, [], ◌∷◌, ◌++◌, length, map, take, drop, pos, All}
use Rattle.fv_num.specs.headline.Frames.{Frame, Stream, table}
use Rattle.fv_num.specs.headline.Interval.{Interval, IsWithin, full, point, span_at}
use Rattle.fv_diagram.specs.Primitive.TheVariants.{Delay}
use Rattle.fv_diagram.specs.headline.Diagram.{Diagram, Primitive, Constant, Control, Slot, Wave, Table, Bind, Par, Seq, Split, Merge, Rec, inputs}
use Rattle.fv_diagram.specs.Diagram.{IsWellFormed, HasNumbers}
use Rattle.fv_diagram.specs.headline.Streams.{column, beside, dealt, merged, bound, run}
use Rattle.fv_diagram.specs.Laws.{fed_back_over}
use Rattle.fv_interval.specs.headline.WireSpans.{bound_span, merged_spans, spans}
use Rattle.fv_interval.specs.headline.Laws.{IsOf}

-- each number of the frame is one of its span
abbrev pub AreOf : List Interval → Frame → Type 0
AreOf [] [] = Unit {0}
AreOf [] (z ∷ x) = ⊥
AreOf (s ∷ I) [] = ⊥
AreOf (s ∷ I) (z ∷ x) = IsOf s z × AreOf I x

-- no output ever leaves its span while no input, control or slot leaves its own
abbrev pub AnswersHold : Diagram → Type 0
AnswersHold d =
    IsWellFormed d → HasNumbers d → (c e : ℕ → Interval) (I : List Interval) (cs es : ℕ → Stream) (X : List Frame) → length I ≡ inputs d →
    ((k t : ℕ) → IsOf (c k) (cs k t)) → ((s t : ℕ) → t < length X → IsOf (e s) (es s t)) → All (AreOf I) X → All (AreOf (spans d c e I)) (run d cs es X)

-- at each `@` of the diagram the second input lies in its span at every sample
abbrev pub DelaysHold : Diagram → (c e : ℕ → Interval) → List Interval → (cs es : ℕ → Stream) → List Frame → Type 0
DelaysHold (Primitive Delay) c e I cs es X = (t : ℕ) → t < length X → IsWithin (span_at I 1) (column X 1 t)
DelaysHold (Primitive p) c e I cs es X = Unit {0}
DelaysHold (Constant n) c e I cs es X = Unit {0}
DelaysHold (Control k) c e I cs es X = Unit {0}
DelaysHold (Slot s) c e I cs es X = Unit {0}
DelaysHold (Wave w) c e I cs es X = Unit {0}
DelaysHold (Table T writes) c e I cs es X = Unit {0}
DelaysHold (Bind s a) c e I cs es X = DelaysHold a c (bound_span e s (span_at I 0)) (drop 1 I) cs (bound es s (column X 0)) (map (drop 1) X)
DelaysHold (Par a b) c e I cs es X =
    DelaysHold a c e (take (inputs a) I) cs es (map (take (inputs a)) X) × DelaysHold b c e (drop (inputs a) I) cs es (map (drop (inputs a)) X)
DelaysHold (Seq a b) c e I cs es X = DelaysHold a c e I cs es X × DelaysHold b c e (spans a c e I) cs es (run a cs es X)
DelaysHold (Split a b) c e I cs es X =
    DelaysHold a c e I cs es X × DelaysHold b c e (dealt (point (pos 0)) (inputs b) (spans a c e I)) cs es (map (dealt (pos 0) (inputs b)) (run a cs es X))
DelaysHold (Merge a b) c e I cs es X =
    DelaysHold a c e I cs es X × DelaysHold b c e (merged_spans (inputs b) (spans a c e I)) cs es (map (merged (inputs b)) (run a cs es X))
-- B is given the whole answer one sample later, and A what B answers on it, beside the frames
DelaysHold (Rec a b) c e I cs es X =
    let F = table (inputs b) (λ i. full) in
    let G = fed_back_over b (run (Rec a b) cs es X) in
    DelaysHold b c e F cs es G × DelaysHold a c e (spans b c e F ++ I) cs es (beside (run b cs es G) X)

-- no `@` meets a second input outside its span while no input, control or slot leaves its own
abbrev pub AllDelaysHold : Diagram → Type 0
AllDelaysHold d =
    IsWellFormed d → HasNumbers d → (c e : ℕ → Interval) (I : List Interval) (cs es : ℕ → Stream) (X : List Frame) → length I ≡ inputs d →
    ((k t : ℕ) → IsOf (c k) (cs k t)) → ((s t : ℕ) → t < length X → IsOf (e s) (es s t)) → All (AreOf I) X → DelaysHold d c e I cs es X
