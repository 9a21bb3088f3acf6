use Rattle.std.proofs.Common.{◌≡◌, replicate}
use Rattle.fv_graph.proofs.begin.repeated.Given as goal

abbrev pub invariant-loop-i : goal.invariant-loop-i
invariant-loop-i g l = l.xs.items ≡ replicate l._i l.x
