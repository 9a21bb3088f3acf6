-- When all compositions of a diagram hold. It says what evaluation keeps of each diagram; `IsWellFormed` says which diagrams
-- can run.
use Rattle.std.specs.Prelude.{◌≡◌, ◌%◌, ◌≤◌, false}
use Rattle.fv_diagram.specs.headline.Diagram.{Diagram, Primitive, Constant, Control, Slot, Wave, Table, Bind, Par, Seq, Split, Merge, Rec, inputs, outputs}
use Rattle.fv_diagram.specs.headline.Diagram.{has_table_primitive}
use Rattle.fv_diagram.specs.Diagram.{IsWellFormed}

-- the condition of each composition holds (Orlarey, Fober, Letz 2004)
abbrev pub IsComposed : Diagram → Type 0
IsComposed (Primitive p) = Unit {0}
IsComposed (Constant n) = Unit {0}
IsComposed (Control k) = Unit {0}
IsComposed (Slot s) = Unit {0}
IsComposed (Wave w) = Unit {0}
IsComposed (Table T writes) = Unit {0}
IsComposed (Bind s a) = IsComposed a
IsComposed (Par a b) = IsComposed a × IsComposed b
IsComposed (Seq a b) = IsComposed a × IsComposed b × (outputs a ≡ inputs b)
IsComposed (Split a b) = IsComposed a × IsComposed b × (1 ≤ outputs a) × (1 ≤ inputs b) × (inputs b % outputs a ≡ 0)
IsComposed (Merge a b) = IsComposed a × IsComposed b × (1 ≤ outputs a) × (1 ≤ inputs b) × (outputs a % inputs b ≡ 0)
IsComposed (Rec a b) = IsComposed a × IsComposed b × (inputs b ≤ outputs a) × (outputs b ≤ inputs a)

-- what is composed, and has no table primitive, is well formed
abbrev pub ComposedIsWell : Diagram → Type 0
ComposedIsWell d = IsComposed d → has_table_primitive d ≡ false → IsWellFormed d
