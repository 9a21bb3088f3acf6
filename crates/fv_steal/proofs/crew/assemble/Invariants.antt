use Rattle.std.proofs.Common.{◌≡◌, ◌≤◌, length, take, vec_len, vec_capacity}
use Rattle.fv_steal.specs.inner.Assembled.{AreFrom}
use Rattle.fv_steal.proofs.crew.assemble.Given as goal

abbrev pub invariant-loop-part : goal.invariant-loop-part
invariant-loop-part g l = record {
  parts : l.parts.items ≡ take (length l.parts.items) l.initial.parts.items;
  seats : l.seats.items ≡ take (length l.parts.items) l.initial.seats.items;
  long : length l.seats.items ≡ length l.parts.items;
  low : length l.parts.items ≤ length l.initial.parts.items;
  room : vec_capacity l.workers ≡ vec_capacity l.initial.workers;
  workers : AreFrom l.initial.parts.items l.initial.seats.items (length l.parts.items) l.workers.items;
}

abbrev pub decreases-loop-part : goal.decreases-loop-part
decreases-loop-part g l = vec_len l.parts
