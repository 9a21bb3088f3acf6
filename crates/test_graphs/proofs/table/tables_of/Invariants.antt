use Rattle.std.proofs.Common.{[]}
use Rattle.fv_signal.specs.headline.Value.{HaveNumbers}
use Rattle.fv_signal.specs.Rows.{graph_with}
use Rattle.test_graphs.proofs.table.tables_of.Given as goal

abbrev pub invariant-loop-i : goal.invariant-loop-i
invariant-loop-i l = HaveNumbers (graph_with [] [] l.tables.items []).tables
