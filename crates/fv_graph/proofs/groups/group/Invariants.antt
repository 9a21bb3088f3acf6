use Rattle.std.proofs.Common.{◌≡◌, ℕ, ◌<◌, ◌≤◌, [], slice_index_or, vec_len, vec_capacity}
use Rattle.fv_graph.specs.inner.Lists.{Grouped}
use Rattle.fv_graph.proofs.groups.group.Given as goal

abbrev pub invariant-loop-j : goal.invariant-loop-j
invariant-loop-j l = ((j : ℕ) (d : _) → j < l._j → (slice_index_or l.lists.items j d).items ≡ []) × (vec_len l.lists ≡ l._j) × (l.loops ≤ vec_capacity l.lists)

abbrev pub invariant-loop-k : goal.invariant-loop-k
invariant-loop-k l = Grouped l.keys l.loops l.k l.lists.items × (vec_len l.lists ≡ l.loops)
