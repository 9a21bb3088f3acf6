use Rattle.std.proofs.Common.{◌≡◌, ◌≤◌, ◌++◌, length, drop, reverse}
use Rattle.fv_parse.proofs.definitions.push_all.Given as goal

abbrev pub invariant-loop-i : goal.invariant-loop-i
invariant-loop-i l = record { within : l.i ≤ length l.ids; so_far : l.stack.items ≡ l.initial.stack.items ++ reverse (drop l.i l.ids) }

abbrev pub decreases-loop-i : goal.decreases-loop-i
decreases-loop-i l = l.i
