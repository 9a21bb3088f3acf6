use Rattle.std.proofs.Common.{◌≡◌, ◌≤◌, vec_len, vec_capacity}
use Rattle.fv_engine_crew.proofs.LoopRooms.{AreFirstRooms}
use Rattle.fv_engine_crew.proofs.room.take_room.Given as goal

abbrev pub invariant-loop-j : goal.invariant-loop-j
invariant-loop-j l = record {
  each : AreFirstRooms l.plan l.tasks.tasks l.places l.j l.rooms.items;
  count : vec_len l.rooms ≡ l.j;
  room : l.plan.loops ≤ vec_capacity l.rooms;
}
