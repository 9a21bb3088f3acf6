-- The number of a diagram: its value at time 0 (this project's profile).
use Rattle.std.specs.Prelude.{ℕ, Bool, true, false, ◌&&◌, nat_eq, List, [], ◌∷◌, ℤ, pos, Option, Some, None, if◌then◌else◌}
use Rattle.fv_num.specs.headline.Words.{argument}
use Rattle.fv_diagram.specs.Primitive.{Primitive as Prim}
use Rattle.fv_diagram.specs.Primitive.TheVariants.{Mem, Prefix, Delay, ReadTable, WriteTable}
use Rattle.fv_diagram.specs.headline.Diagram.{Diagram, Primitive, Constant, Par, Seq, Split, Merge, inputs, outputs}
use Rattle.fv_diagram.specs.headline.Streams.{Stream, run, last}

-- a primitive whose value at a time depends on its inputs at that time alone
abbrev pub is_pointwise : Prim → Bool
is_pointwise Mem = false
is_pointwise Prefix = false
is_pointwise Delay = false
is_pointwise ReadTable = false
is_pointwise WriteTable = false
is_pointwise p = true

-- built of integers, pointwise primitives and the compositions but `~`
abbrev pub is_timeless : Diagram → Bool
is_timeless (Primitive p) = is_pointwise p
is_timeless (Constant n) = true
is_timeless (Par a b) = is_timeless a && is_timeless b
is_timeless (Seq a b) = is_timeless a && is_timeless b
is_timeless (Split a b) = is_timeless a && is_timeless b
is_timeless (Merge a b) = is_timeless a && is_timeless b
is_timeless d = false

-- controls and slots that are 0
abbrev pub silent : ℕ → Stream
silent k t = pos 0

-- what a diagram without inputs gives at time 0
abbrev pub at_first : Diagram → List ℤ
at_first d = last (run d silent silent ([] ∷ []))

-- The number of a diagram that has one.
abbrev pub number_of : Diagram → Option ℤ
number_of d = if is_timeless d && (nat_eq (inputs d) 0 && nat_eq (outputs d) 1) then Some (argument (at_first d) 0) else None
