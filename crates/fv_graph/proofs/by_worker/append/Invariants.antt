use Rattle.std.proofs.Common.{◌≡◌, ◌+◌, ◌++◌, take, vec_len, vec_capacity}
use Rattle.fv_graph.proofs.by_worker.append.Given as goal

abbrev pub invariant-loop-edge : goal.invariant-loop-edge
invariant-loop-edge l = (l.owed.items ≡ l.initial.owed.items ++ take l.edge-index l.edges)
    × (vec_len l.owed ≡ vec_len l.initial.owed + l.edge-index) × (vec_capacity l.owed ≡ vec_capacity l.initial.owed)
