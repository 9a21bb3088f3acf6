use Rattle.std.proofs.Common.{◌≡◌, ◌≤◌, ◌++◌, length, map, vec_len, vec_capacity}
use Rattle.std.specs.Vec.Iter.{into_iter_items, into_iter_len}
use Rattle.fv_steal.specs.Crews.{seat_of}
use Rattle.fv_steal.proofs.seats.seats_of.Given as goal

abbrev pub invariant-loop-worker : goal.invariant-loop-worker
invariant-loop-worker g l = record {
  all : l.yielded ++ into_iter_items l.worker-iterator ≡ into_iter_items l.initial.worker-iterator;
  seats : l.seats.items ≡ map seat_of l.yielded;
  count : vec_len l.seats ≡ length l.yielded;
  long : into_iter_len l.worker-iterator ≡ length (into_iter_items l.worker-iterator);
  room : length (into_iter_items l.initial.worker-iterator) ≤ vec_capacity l.seats;
}
