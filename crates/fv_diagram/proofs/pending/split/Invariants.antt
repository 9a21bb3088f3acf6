use Rattle.std.proofs.Common.{◌≡◌, take, drop}
use Rattle.fv_diagram.proofs.pending.split.Given as goal

abbrev pub invariant-loop-i : goal.invariant-loop-i
invariant-loop-i g l = l.first.items ≡ take l.i l.wires.items

abbrev pub invariant-loop : goal.invariant-loop
invariant-loop g l = l.wires.items ≡ drop l.counter l.fn.wires.items
