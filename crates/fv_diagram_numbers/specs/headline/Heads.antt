-- What stands before `rdtable` and `rwtable`: a table's head, which gives its size and its numbers, and what the table takes (Faust
-- manual; this project's profile).
use Rattle.std.specs.Prelude.{ℕ, zero, suc, ◌+◌, ◌-◌, Bool, true, false, ◌&&◌, not, nat_eq, List, [], ◌∷◌, ◌++◌, map, replicate, ℤ}
use Rattle.std.specs.List.{list_any, list_all}
use Rattle.fv_diagram.specs.Words.{argument}
use Rattle.fv_diagram.specs.headline.Diagram.{Diagram, Primitive, Control, Slot, Bind, Par, Seq, Split, Merge, Rec, inputs, outputs, is_table_primitive}
use Rattle.fv_diagram.specs.headline.Streams.{run}
use Rattle.fv_diagram_numbers.specs.headline.Numbers.{silent}

-- the outputs of diagrams together
abbrev pub all_outputs : List Diagram → ℕ
all_outputs [] = 0
all_outputs (d ∷ ds) = outputs d + all_outputs ds

-- the parts of a diagram: those of both sides of a parallel composition, and else the diagram itself
abbrev pub parts : Diagram → List Diagram
parts (Par a b) = parts a ++ parts b
parts d = d ∷ []

-- the first parts, as few as have this many outputs together, and the others
abbrev pub cut : ℕ → List Diagram → List Diagram × List Diagram
cut zero ds = ([], ds)
cut (suc wanted) [] = ([], [])
cut (suc wanted) (d ∷ ds) = let r = cut (suc wanted - outputs d) ds in (d ∷ r.0, r.1)

-- no control and no table primitive is in it, and each slot is one of these, or stands under a bind of it
abbrev pub is_closed : List ℕ → Diagram → Bool
is_closed bound (Primitive p) = not (is_table_primitive p)
is_closed bound (Control k) = false
is_closed bound (Slot s) = list_any (λ b. nat_eq b s) bound
is_closed bound (Bind s a) = is_closed (s ∷ bound) a
is_closed bound (Par a b) = is_closed bound a && is_closed bound b
is_closed bound (Seq a b) = is_closed bound a && is_closed bound b
is_closed bound (Split a b) = is_closed bound a && is_closed bound b
is_closed bound (Merge a b) = is_closed bound a && is_closed bound b
is_closed bound (Rec a b) = is_closed bound a && is_closed bound b
is_closed bound d = true

-- what a table's numbers may be made of: it takes nothing, and depends on nothing
abbrev pub is_fixed : Diagram → Bool
is_fixed d = nat_eq (inputs d) 0 && is_closed [] d

-- whether parts give a table's size and its numbers, and nothing else
abbrev pub is_head : List Diagram → Bool
is_head ds = nat_eq (all_outputs ds) 2 && list_all is_fixed ds

-- a table's numbers: the first ones of its head's second output
abbrev pub table_numbers : ℕ → Diagram → List ℤ
table_numbers n h = map (λ y. argument y 1) (run h silent silent (replicate n []))
