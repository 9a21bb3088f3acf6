use Rattle.std.proofs.Common.{◌≡◌, ℕ, ◌+◌, ◌*◌, ◌<◌, ◌≤◌, get_or, pos}
use Rattle.fv_engine_tasks.proofs.outputs.put_row.Given as goal

abbrev pub invariant-loop-k : goal.invariant-loop-k
invariant-loop-k l = record {
  put : (i : ℕ) → i < l.k → get_or l.output ((l.from + i) * l.width + l.place) (pos 0) ≡ get_or l.row i (pos 0);
  others : (s j : ℕ) → j < l.width → (j ≡ l.place → l.from ≤ s → ⊥)
      → get_or l.output (s * l.width + j) (pos 0) ≡ get_or l.initial.output (s * l.width + j) (pos 0);
}
