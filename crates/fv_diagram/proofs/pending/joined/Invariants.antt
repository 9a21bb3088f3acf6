use Rattle.std.proofs.Common.{◌≡◌, ◌++◌, length}
use Rattle.fv_diagram.proofs.pending.joined.Given as goal

abbrev pub invariant-loop-wire : goal.invariant-loop-wire
invariant-loop-wire g l = l.front.items ++ l.back.items ≡ l.fn.front.items ++ l.fn.back.items

abbrev pub decreases-loop-wire : goal.decreases-loop-wire
decreases-loop-wire g l = length l.front.items

abbrev pub invariant-loop-wire-2 : goal.invariant-loop-wire-2
invariant-loop-wire-2 g l = l.front.items ++ l.back.items ≡ l.fn.front.items ++ l.fn.back.items

abbrev pub decreases-loop-wire-2 : goal.decreases-loop-wire-2
decreases-loop-wire-2 g l = length l.back.items
