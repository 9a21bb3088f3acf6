use Rattle.std.proofs.Common.{ℕ, ◌<◌, [], get_or}
use Rattle.fv_signal.specs.declared.signal.Signal.{Signal}
use Rattle.fv_signal.specs.Rows.{graph_with}
use Rattle.test_graphs.proofs.Standing.{Stands}
use Rattle.test_graphs.proofs.table.are_graph.Given as goal

abbrev pub invariant-loop-place : goal.invariant-loop-place
invariant-loop-place l = (i : ℕ) → i < l.place → (d : Signal) → Stands (graph_with l.signals l.groups l.tables []) i (get_or l.signals i d)
