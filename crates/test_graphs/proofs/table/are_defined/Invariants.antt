use Rattle.std.proofs.Common.{ℕ, ◌<◌, All, [], length}
use Rattle.fv_signal.specs.headline.Value.{members}
use Rattle.fv_signal.specs.Rows.{graph_with}
use Rattle.test_graphs.proofs.table.are_defined.Given as goal

abbrev pub invariant-loop-i : goal.invariant-loop-i
invariant-loop-i l = (group : ℕ) → group < l.i → All (λ s. s < length l.signals) (members (graph_with l.signals l.groups [] []) group)
