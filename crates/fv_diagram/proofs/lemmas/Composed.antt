-- What is composed, and has no table primitive, is well formed.
use Rattle.std.proofs.lemmas.Bool.{or_parts}
use Rattle.fv_diagram.specs.headline.Diagram.{Diagram, Primitive, Constant, Control, Slot, Wave, Table, Bind, Par, Seq, Split, Merge, Rec, has_table_primitive}
use Rattle.fv_diagram.specs.Composed.{ComposedIsWell}

pub composed_is_well : (d : Diagram) → ComposedIsWell d
composed_is_well (Primitive p) c h = h
composed_is_well (Constant n) c h = tt
composed_is_well (Control k) c h = tt
composed_is_well (Slot s) c h = tt
composed_is_well (Wave w) c h = tt
composed_is_well (Table T writes) c h = tt
composed_is_well (Bind s a) c h = composed_is_well a c h
composed_is_well (Par a b) c h =
    let both = or_parts (has_table_primitive a) (has_table_primitive b) h in (composed_is_well a c.0 both.0, composed_is_well b c.1 both.1)
composed_is_well (Seq a b) c h =
    let both = or_parts (has_table_primitive a) (has_table_primitive b) h in (composed_is_well a c.0 both.0, composed_is_well b c.1 both.1, c.2)
composed_is_well (Split a b) c h =
    let both = or_parts (has_table_primitive a) (has_table_primitive b) h in (composed_is_well a c.0 both.0, composed_is_well b c.1 both.1, c.2, c.3, c.4)
composed_is_well (Merge a b) c h =
    let both = or_parts (has_table_primitive a) (has_table_primitive b) h in (composed_is_well a c.0 both.0, composed_is_well b c.1 both.1, c.2, c.3, c.4)
composed_is_well (Rec a b) c h =
    let both = or_parts (has_table_primitive a) (has_table_primitive b) h in (composed_is_well a c.0 both.0, composed_is_well b c.1 both.1, c.2, c.3)
