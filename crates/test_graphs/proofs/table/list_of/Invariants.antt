use Rattle.std.proofs.Common.{All, w32, FitsSigned}
use Rattle.test_graphs.proofs.table.list_of.Given as goal

abbrev pub invariant-loop-i : goal.invariant-loop-i
invariant-loop-i l = All (λ n. FitsSigned w32 n) l.list.items
