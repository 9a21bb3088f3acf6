use Rattle.std.proofs.Common.{◌≡◌, ℕ, ◌<◌, ◌≤◌, [], slice_index_or, vec_len, vec_capacity}
use Rattle.fv_graph.specs.inner.Lists.{Grouped}
use Rattle.fv_engine_codes.proofs.Keys.{owners_of}
use Rattle.fv_engine_codes.proofs.owners.lanes_by_loop.Given as goal

abbrev pub invariant-loop-j : goal.invariant-loop-j
invariant-loop-j l = ((j : ℕ) (d : _) → j < l._j → (slice_index_or l.lists.items j d).items ≡ []) × (vec_len l.lists ≡ l._j) × (l.loops ≤ vec_capacity l.lists)

abbrev pub invariant-loop-l : goal.invariant-loop-l
invariant-loop-l l = Grouped (owners_of l.plan) l.loops l.l l.lists.items × (vec_len l.lists ≡ l.loops)
