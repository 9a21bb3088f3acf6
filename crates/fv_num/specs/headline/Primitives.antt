-- How many streams a primitive takes and gives.
use Rattle.std.specs.Prelude.{ℕ, Bool, true, false}
use Rattle.fv_num.specs.headline.Words.{inputs_of}
use Rattle.fv_num.specs.declared.primitive.Primitive.{Primitive}
use Rattle.fv_num.specs.declared.primitive.Primitive.TheVariants.{Cut, Prefix, Delay, Attach, Point, ReadTable, WriteTable}

-- how many streams a primitive takes (Faust manual)
abbrev pub primitive_inputs : Primitive → ℕ
primitive_inputs Prefix = 2
primitive_inputs Delay = 2
primitive_inputs Attach = 2
primitive_inputs ReadTable = 3
primitive_inputs WriteTable = 5
primitive_inputs (Point op) = inputs_of op
primitive_inputs _ = 1

-- how many streams a primitive gives (Faust manual)
abbrev pub primitive_outputs : Primitive → ℕ
primitive_outputs Cut = 0
primitive_outputs _ = 1

-- the primitive is `rdtable` or `rwtable`, which become tables where they are put after the numbers of one
abbrev pub is_table_primitive : Primitive → Bool
is_table_primitive ReadTable = true
is_table_primitive WriteTable = true
is_table_primitive _ = false
