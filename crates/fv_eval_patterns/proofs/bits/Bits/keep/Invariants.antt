use Rattle.std.proofs.Common.{ℕ, ◌≡◌, ◌≤◌, true, vec_len}
use Rattle.fv_eval_patterns.specs.Bits.{has}
use Rattle.fv_eval_patterns.proofs.bits.Bits.keep.Given as goal

abbrev pub invariant-loop-i : goal.invariant-loop-i
invariant-loop-i l = record {
  long : vec_len l.self-inside.words ≡ l.i-end;
  short : l.i-end ≤ vec_len l.others-inside.words;
  keeps : (j : ℕ) → has l.fn.self j ≡ true → has l.fn.others j ≡ true → has l.self-inside.words.items j ≡ true;
}
