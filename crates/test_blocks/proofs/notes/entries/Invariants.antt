use Rattle.std.proofs.Common.{◌≡◌, ◌≤◌, vec_len, vec_capacity}
use Rattle.test_blocks.proofs.Noting.{AreAt}
use Rattle.test_blocks.proofs.notes.entries.Given as goal

abbrev pub invariant-loop-edge : goal.invariant-loop-edge
invariant-loop-edge l = record {
  notes : AreAt (λ n. n.edge) (λ n. n.block) 9 l.list.items;
  long : vec_len l.list ≡ l.edge;
  room : l.loops ≤ vec_capacity l.list;
}
