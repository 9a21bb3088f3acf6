use Rattle.std.proofs.Common.{◌≡◌, [], ℕ, length}
use Rattle.fv_split_code.specs.Emitted.{code_in}
use Rattle.fv_split_code.proofs.emit.no_codes.Given as goal

abbrev pub invariant-loop : goal.invariant-loop
invariant-loop l = record {
  long : length l.codes.items ≡ l.counter;
  empty : (j : ℕ) → code_in l.codes.items j ≡ [];
}
