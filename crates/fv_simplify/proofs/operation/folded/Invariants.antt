use Rattle.std.proofs.Common.{◌≡◌, ◌<◌, ℕ, length, get_or, pos, Some}
use Rattle.fv_simplify.specs.Nodes.{number_at}
use Rattle.fv_simplify.specs.Passing.{so_far}
use Rattle.fv_simplify.proofs.operation.folded.Given as goal

abbrev pub invariant-loop-i : goal.invariant-loop-i
invariant-loop-i l = record {
  wide : length l.known ≡ 4;
  are : (k : ℕ) → k < l.i → number_at (so_far l.builder) (get_or l.args k 0) ≡ Some (get_or l.known k (pos 0));
}
