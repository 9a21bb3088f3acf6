use Rattle.std.proofs.Common.{ℕ, ◌≡◌, ◌<◌, true}
use Rattle.fv_eval_patterns.specs.Bits.{has}
use Rattle.fv_eval_patterns.proofs.bits.Bits.first.Given as goal

abbrev pub invariant-loop-i : goal.invariant-loop-i
invariant-loop-i l = (j : ℕ) → j < l.i → has l.all j ≡ true
