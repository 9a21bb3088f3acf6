use Rattle.std.proofs.Common.{◌≡◌, take}
use Rattle.fv_split_plan.specs.Rows.{lists_of}
use Rattle.fv_split.proofs.cells.copied_tables.Given as goal

abbrev pub invariant-loop-table : goal.invariant-loop-table
invariant-loop-table l = lists_of l.tables.items ≡ take l.table l.graph.tables
