use Rattle.std.proofs.Common.{◌≡◌, ◌≤◌, vec_len, vec_capacity}
use Rattle.fv_engine_crew.specs.Contents.{AreRoomy}
use Rattle.fv_engine_crew.proofs.room.seen_lists.Given as goal

abbrev pub invariant-loop-i : goal.invariant-loop-i
invariant-loop-i l = record {
  roomy : AreRoomy l.lists.items l.room;
  count : vec_len l.lists ≡ l._i;
  space : l.count ≤ vec_capacity l.lists;
}
