use Rattle.std.proofs.Common.{◌≡◌, ◌≤◌, length, map, take, All, vec_len, vec_capacity}
use Rattle.test_blocks.proofs.notes.NotesBodyNote.run.Given as goal

abbrev pub invariant-loop-edge : goal.invariant-loop-edge
invariant-loop-edge l = record {
  edges : map (λ n. n.edge) l.parcels.items ≡ take l.edge-index l.edge-items;
  keys : All (λ n. n.block ≡ l.self.block) l.parcels.items;
  long : vec_len l.parcels ≡ l.edge-index;
  room : length l.edge-items ≤ vec_capacity l.parcels;
  more : vec_capacity l.fn.parcels ≤ vec_capacity l.parcels;
}
