-- What is well formed is composed.
use Rattle.fv_diagram.specs.Composed.{IsComposed}
use Rattle.fv_diagram.specs.headline.Diagram.{Diagram, Primitive, Constant, Control, Slot, Wave, Table, Bind, Par, Seq, Split, Merge, Rec}
use Rattle.fv_diagram.specs.Diagram.{IsWellFormed}

pub well_is_composed : (d : Diagram) → IsWellFormed d → IsComposed d
well_is_composed (Primitive p) h = tt
well_is_composed (Constant n) h = tt
well_is_composed (Control k) h = tt
well_is_composed (Slot s) h = tt
well_is_composed (Wave w) h = tt
well_is_composed (Table T writes) h = tt
well_is_composed (Bind s a) h = well_is_composed a h
well_is_composed (Par a b) h = (well_is_composed a h.0, well_is_composed b h.1)
well_is_composed (Seq a b) h = (well_is_composed a h.0, well_is_composed b h.1, h.2)
well_is_composed (Split a b) h = (well_is_composed a h.0, well_is_composed b h.1, h.2, h.3, h.4)
well_is_composed (Merge a b) h = (well_is_composed a h.0, well_is_composed b h.1, h.2, h.3, h.4)
well_is_composed (Rec a b) h = (well_is_composed a h.0, well_is_composed b h.1, h.2, h.3)
