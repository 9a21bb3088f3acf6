use Rattle.std.proofs.Common.{◌≡◌, ◌+◌, ◌++◌, take, vec_len, vec_capacity}
use Rattle.fv_ready.proofs.seat.append.Given as goal

abbrev pub invariant-loop-edge : goal.invariant-loop-edge
invariant-loop-edge l = (l.list.items ≡ l.initial.list.items ++ take l.edge-index l.more)
    × (vec_len l.list ≡ vec_len l.initial.list + l.edge-index) × (vec_capacity l.list ≡ vec_capacity l.initial.list)
