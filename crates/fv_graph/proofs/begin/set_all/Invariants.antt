use Rattle.std.proofs.Common.{◌≡◌, ℕ, ◌<◌, get_or, vec_len}
use Rattle.fv_graph.proofs.begin.set_all.Given as goal

abbrev pub invariant-loop-i : goal.invariant-loop-i
invariant-loop-i g l = ((k : ℕ) → k < l.i → get_or l.xs.items k l.x ≡ l.x) × (vec_len l.xs ≡ vec_len l.initial.xs)
