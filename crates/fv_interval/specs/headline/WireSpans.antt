-- The spans of the wires of a diagram, from those of its inputs, controls and slots, and those of its delays (this project's
-- profile).
use Rattle.std.specs.Prelude.{ℕ, Bool, true, false, List, [], ◌∷◌, ◌++◌, length, take, drop, ℤ, pos, if◌then◌else◌, nat_eq}
use Rattle.fv_num.specs.declared.op.Op.TheVariants.{Add}
use Rattle.fv_num.specs.headline.Frames.{table}
use Rattle.fv_num.specs.headline.Interval.{Interval, full, point, hull, span_at}
use Rattle.fv_num.specs.headline.Spans.{span_of}
use Rattle.fv_diagram.specs.Primitive.{Primitive as Prim}
use Rattle.fv_diagram.specs.Primitive.TheVariants.{Wire, Cut, Mem, Prefix, Delay, Int, Attach, Point, ReadTable, WriteTable}
use Rattle.fv_diagram.specs.headline.Diagram.{Diagram, Primitive, Constant, Control, Slot, Wave, Table, Bind, Par, Seq, Split, Merge, Rec, inputs}
use Rattle.fv_diagram.specs.headline.Streams.{dealt, every}

-- what a primitive makes of its inputs' spans
abbrev pub primitive_spans : Prim → List Interval → List Interval
primitive_spans Wire I = span_at I 0 ∷ []
primitive_spans Int I = span_at I 0 ∷ []
primitive_spans Attach I = span_at I 0 ∷ []
primitive_spans Cut I = []
primitive_spans Mem I = hull (span_at I 0) (point (pos 0)) ∷ []
primitive_spans Delay I = hull (span_at I 0) (point (pos 0)) ∷ []
primitive_spans Prefix I = hull (span_at I 0) (span_at I 1) ∷ []
primitive_spans (Point op) I = span_of op I ∷ []
-- no well-formed diagram has one of these two
primitive_spans ReadTable I = full ∷ []
primitive_spans WriteTable I = full ∷ []

-- the least span that holds a span and all numbers of a list
abbrev pub hull_with : Interval → List ℤ → Interval
hull_with s [] = s
hull_with s (n ∷ ns) = hull_with (hull s (point n)) ns

-- the least span that holds all numbers of a list
abbrev pub hull_of : List ℤ → Interval
hull_of [] = point (pos 0)
hull_of (n ∷ ns) = hull_with (point n) ns

-- the span of a table, which has its own numbers and where it is written those that come second
abbrev pub table_span : List ℤ → Bool → List Interval → Interval
table_span T false I = hull_of T
table_span T true I = hull (hull_of T) (span_at I 1)

-- the span of a sum, folded from the left
abbrev pub added_span : Interval → List Interval → Interval
added_span s [] = s
added_span s (x ∷ xs) = added_span (span_of Add (s ∷ x ∷ [])) xs

-- the span of the sum of all
abbrev pub summed_span : List Interval → Interval
summed_span [] = point (pos 0)
summed_span (x ∷ xs) = added_span x xs

-- the n spans of the sums of a merge: span j is that of the sum of the items i with i modulo n equal to j
abbrev pub merged_spans : ℕ → List Interval → List Interval
merged_spans n I = table n (λ j. summed_span (every n j 0 I))

-- the spans of the slots, with x for slot s
abbrev pub bound_span : (ℕ → Interval) → ℕ → Interval → ℕ → Interval
bound_span e s x slot = if nat_eq slot s then x else e slot

-- the spans of a diagram's outputs
abbrev pub spans : Diagram → (c e : ℕ → Interval) → List Interval → List Interval
spans (Primitive p) c e I = primitive_spans p I
spans (Constant n) c e I = point n ∷ []
spans (Control k) c e I = c k ∷ []
spans (Slot s) c e I = e s ∷ []
spans (Wave w) c e I = point (pos (length w)) ∷ hull_of w ∷ []
spans (Table T writes) c e I = table_span T writes I ∷ []
spans (Bind s a) c e I = spans a c (bound_span e s (span_at I 0)) (drop 1 I)
spans (Par a b) c e I = spans a c e (take (inputs a) I) ++ spans b c e (drop (inputs a) I)
spans (Seq a b) c e I = spans b c e (spans a c e I)
spans (Split a b) c e I = spans b c e (dealt (point (pos 0)) (inputs b) (spans a c e I))
spans (Merge a b) c e I = spans b c e (merged_spans (inputs b) (spans a c e I))
spans (Rec a b) c e I = spans a c e (spans b c e (table (inputs b) (λ i. full)) ++ I)

-- The spans of the delays of a diagram, in the order of the walk: `mem`, `prefix` and each wire that is fed back delay by
-- one frame, `@` by a number of its second input's span. A composition is walked left, then right, but `A~B` is walked as
-- the wires that are fed back, then B, then A.
abbrev pub delay_spans : Diagram → (c e : ℕ → Interval) → List Interval → List Interval
delay_spans (Primitive Mem) c e I = point (pos 1) ∷ []
delay_spans (Primitive Prefix) c e I = point (pos 1) ∷ []
delay_spans (Primitive Delay) c e I = span_at I 1 ∷ []
delay_spans (Primitive p) c e I = []
delay_spans (Constant n) c e I = []
delay_spans (Control k) c e I = []
delay_spans (Slot s) c e I = []
delay_spans (Wave w) c e I = []
delay_spans (Table T writes) c e I = []
delay_spans (Bind s a) c e I = delay_spans a c (bound_span e s (span_at I 0)) (drop 1 I)
delay_spans (Par a b) c e I = delay_spans a c e (take (inputs a) I) ++ delay_spans b c e (drop (inputs a) I)
delay_spans (Seq a b) c e I = delay_spans a c e I ++ delay_spans b c e (spans a c e I)
delay_spans (Split a b) c e I = delay_spans a c e I ++ delay_spans b c e (dealt (point (pos 0)) (inputs b) (spans a c e I))
delay_spans (Merge a b) c e I = delay_spans a c e I ++ delay_spans b c e (merged_spans (inputs b) (spans a c e I))
delay_spans (Rec a b) c e I =
    let F = table (inputs b) (λ i. full) in
    table (inputs b) (λ i. point (pos 1)) ++ (delay_spans b c e F ++ delay_spans a c e (spans b c e F ++ I))
