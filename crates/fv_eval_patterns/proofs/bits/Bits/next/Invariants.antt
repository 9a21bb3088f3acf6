use Rattle.std.proofs.Common.{ℕ, ◌≡◌, ◌≤◌, ◌<◌, ◌-◌, false}
use Rattle.fv_eval_patterns.specs.Bits.{has}
use Rattle.fv_eval_patterns.proofs.bits.Bits.next.Given as goal

abbrev pub invariant-words : goal.invariant-words
invariant-words l = record {
  from : l.from ≤ l.at;
  skipped : (j : ℕ) → l.from ≤ j → j < l.at → j < l.end → has l.self j ≡ false;
}

abbrev pub decreases-words : goal.decreases-words
decreases-words l = l.end - l.at
