-- A block diagram as a tree, its arity, its size, and when it is well formed. The compositions and their conditions are
-- those of Orlarey, Fober, Letz (2004); slots, binds and controls are this project's profile.
use Rattle.std.specs.Prelude.{ℕ, suc, ◌+◌, ◌-◌, ℤ, Bool, true, false, ◌||◌, List}
pub use Rattle.fv_num.specs.headline.Primitives.{primitive_inputs, primitive_outputs, is_table_primitive}
use Rattle.fv_num.specs.declared.primitive.Primitive.{Primitive as Prim}

-- a leaf, a body in which a slot is bound, or one of the five compositions. A leaf is a primitive, a number, a control, a slot, or
-- a waveform or table with its numbers.
pub data Diagram : Type 0 where
  Primitive : (primitive : Prim) → Diagram
  Constant : (value : ℤ) → Diagram
  Control : (control : ℕ) → Diagram
  Slot : (slot : ℕ) → Diagram
  Wave : (values : List ℤ) → Diagram
  Table : (values : List ℤ) → (writes : Bool) → Diagram
  Bind : (slot : ℕ) → (body : Diagram) → Diagram
  Par : (a b : Diagram) → Diagram
  Seq : (a b : Diagram) → Diagram
  Split : (a b : Diagram) → Diagram
  Merge : (a b : Diagram) → Diagram
  Rec : (a b : Diagram) → Diagram

-- how many streams a table takes: where to write, what to write and where to read, or where to read alone (Faust manual)
abbrev pub table_inputs : Bool → ℕ
table_inputs true = 3
table_inputs false = 1

-- how many streams a diagram gives
abbrev pub outputs : Diagram → ℕ
outputs (Primitive p) = primitive_outputs p
outputs (Wave w) = 2
outputs (Bind s a) = outputs a
outputs (Par a b) = outputs a + outputs b
outputs (Seq a b) = outputs b
outputs (Split a b) = outputs b
outputs (Merge a b) = outputs b
outputs (Rec a b) = outputs a
outputs _ = 1

-- how many it takes
abbrev pub inputs : Diagram → ℕ
inputs (Primitive p) = primitive_inputs p
inputs (Table T writes) = table_inputs writes
inputs (Bind s a) = suc (inputs a)
inputs (Par a b) = inputs a + inputs b
inputs (Seq a b) = inputs a
inputs (Split a b) = inputs a
inputs (Merge a b) = inputs a
inputs (Rec a b) = inputs a - outputs b
inputs _ = 0

-- the number of its nodes, as a tree
abbrev pub size : Diagram → ℕ
size (Bind s a) = 1 + size a
size (Par a b) = 1 + size a + size b
size (Seq a b) = 1 + size a + size b
size (Split a b) = 1 + size a + size b
size (Merge a b) = 1 + size a + size b
size (Rec a b) = 1 + size a + size b
size _ = 1

-- `rdtable` or `rwtable` occurs, which becomes a table where it is put after the numbers of one
abbrev pub has_table_primitive : Diagram → Bool
has_table_primitive (Primitive p) = is_table_primitive p
has_table_primitive (Bind s a) = has_table_primitive a
has_table_primitive (Par a b) = has_table_primitive a || has_table_primitive b
has_table_primitive (Seq a b) = has_table_primitive a || has_table_primitive b
has_table_primitive (Split a b) = has_table_primitive a || has_table_primitive b
has_table_primitive (Merge a b) = has_table_primitive a || has_table_primitive b
has_table_primitive (Rec a b) = has_table_primitive a || has_table_primitive b
has_table_primitive d = false
