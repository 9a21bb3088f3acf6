use Rattle.std.proofs.Common.{◌≡◌, ◌<◌, ℕ, get_or, take, pos, w32, FitsSigned}
use Rattle.fv_share.proofs.builder.copied.Given as goal

abbrev pub invariant-loop-i : goal.invariant-loop-i
invariant-loop-i l = (l.numbers.items ≡ take l.i l.values) × ((k : ℕ) → k < l.i → FitsSigned w32 (get_or l.values k (pos 0)))
