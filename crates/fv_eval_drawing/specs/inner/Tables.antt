-- What putting a table answers, against the rule of tables (this project's profile).
use Rattle.std.specs.Prelude.{◌≡◌, ◌⊎◌, ℕ, ◌+◌, ◌<◌, Bool, true, false, Option, Some, None, Result, Ok, Err}
use Rattle.fv_diagram.specs.Primitive.{Primitive as Prim}
use Rattle.fv_diagram.specs.Primitive.TheVariants as prim
use Rattle.fv_diagram.specs.headline.Diagram.{Diagram, Primitive, outputs, table_inputs}
use Rattle.fv_diagram.specs.Arena.{Arena, count_of, tree_of}
use Rattle.fv_rules.specs.declared.refusal.EvalRefusal.{EvalRefusal}
use Rattle.fv_rules.specs.declared.refusal.EvalRefusal.TheVariants.{NoMemory}
use Rattle.fv_rules.specs.headline.Steps.{give, grow, misfit, put, put_after, refuse, tabled}
use Rattle.fv_eval_drawing.specs.Makes.{Becomes, Canvas}

-- the primitive that becomes a table which is written, or is read alone
abbrev pub table_primitive : Bool → Prim
table_primitive true = prim.WriteTable
table_primitive false = prim.ReadTable

-- whether the table of a table primitive is written; none of every other primitive
abbrev pub writes_of : Prim → Option Bool
writes_of prim.ReadTable = Some false
writes_of prim.WriteTable = Some true
writes_of p = None

-- whether the table of a diagram that is a table primitive is written; none of every other diagram
abbrev pub as_table : Diagram → Option Bool
as_table (Primitive p) = writes_of p
as_table d = None

-- The table sum grew by the number, and nothing else changed; or that is refused.
abbrev pub GrowsBy : (old new : Canvas) → ℕ → Result Unit EvalRefusal → Type 0
GrowsBy old new n (Ok u) = (new.diagrams ≡ old.diagrams) × Becomes old new (grow n) (give tt)
GrowsBy old new n (Err e) = (new.diagrams ≡ old.diagrams) × ((e ≡ NoMemory) ⊎ Becomes old new (grow n) (refuse e))

-- Putting a diagram puts a table after this one, which gives what the table and its head take; or the diagram is put as it is.
abbrev pub PutsTable : Arena → Diagram → Option (ℕ × Bool) → Type 0
PutsTable a d None = put d ≡ put_after (misfit d) d
PutsTable a d (Some x) =
    (x.0 < count_of a) × ((outputs (tree_of a x.0) ≡ 2 + table_inputs x.1) × (put d ≡ tabled x.1 (tree_of a x.0)))
