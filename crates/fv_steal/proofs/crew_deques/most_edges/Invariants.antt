use Rattle.std.proofs.Common.{ℕ, ◌<◌, ◌≤◌, length}
use Rattle.fv_graph.specs.Graph.{inward, outward}
use Rattle.fv_steal.proofs.crew_deques.most_edges.Given as goal

abbrev pub invariant-loop-t : goal.invariant-loop-t
invariant-loop-t l = record {
  most : (t : ℕ) → t < l.t → (length (inward l.tasks.tasks t) ≤ l.most) × (length (outward l.tasks.tasks t) ≤ l.most);
}
