use Rattle.std.proofs.Common.{◌≡◌, ◌+◌, ◌-◌, length, map, drop, vec_len, vec_capacity}
use Rattle.std.specs.Prelude.{All, reverse}
use Rattle.fv_engine_crew.specs.Contents.{AreHandedOn}
use Rattle.fv_engine_crew.proofs.body.LoopBody.hand.Given as goal

abbrev pub invariant-loop-i : goal.invariant-loop-i
invariant-loop-i l = record {
  writers : AreHandedOn l.self.start l.fn.task.loop_no (l.fn.task.vector + 1) (length l.edges - 1 - l.i) l.writers.value;
  edges : map (λ p. p.edge) l.parcels.items ≡ reverse (drop (length l.edges - l.i) l.edges);
  keys : All (λ p. p.start.value ≡ l.self.start) l.parcels.items;
  count : vec_len l.parcels ≡ l.i;
  room : vec_capacity l.parcels ≡ vec_capacity l.fn.parcels;
}
