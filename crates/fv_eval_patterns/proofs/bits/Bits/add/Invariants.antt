use Rattle.std.proofs.Common.{ℕ, ◌≡◌, ◌-◌, suc, true, vec_len}
use Rattle.fv_eval_patterns.specs.Bits.{has}
use Rattle.fv_eval_patterns.proofs.bits.Bits.add.Given as goal

abbrev pub invariant-grow : goal.invariant-grow
invariant-grow l = (j : ℕ) → has l.fn.self j ≡ true → has l.self-inside.words.items j ≡ true

abbrev pub decreases-grow : goal.decreases-grow
decreases-grow l = suc l.i - vec_len l.self-inside.words
