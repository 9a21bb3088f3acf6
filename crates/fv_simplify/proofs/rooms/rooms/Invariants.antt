use Rattle.std.proofs.Common.{◌≡◌, length}
use Rattle.fv_simplify.specs.Rebuilt.{IsRoom}
use Rattle.fv_simplify.specs.Passing.{room_in}
use Rattle.fv_simplify.proofs.RoomLemmas.{Before}
use Rattle.fv_simplify.proofs.rooms.rooms.Given as goal

abbrev pub invariant-loop-place : goal.invariant-loop-place
invariant-loop-place l = record {
  long : length l.rooms.items ≡ length l.graph.signals;
  are : IsRoom l.graph (Before l.marks l.place) (room_in l.rooms.items);
}
