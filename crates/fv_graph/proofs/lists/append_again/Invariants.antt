use Rattle.std.proofs.Common.{◌≡◌, ◌+◌, ◌++◌, map, take}
use Rattle.fv_graph.proofs.lists.append_again.Given as goal

abbrev pub invariant-loop-i : goal.invariant-loop-i
invariant-loop-i l = l.edges.items ≡ l.fn.edges.items ++ map (λ e. l.from + e) (take l.i l.fn.edges.items)
