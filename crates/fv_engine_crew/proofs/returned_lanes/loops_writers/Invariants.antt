use Rattle.std.proofs.Common.{◌≡◌, ◌≤◌, ℕ, length, drop, vec_capacity}
use Rattle.std.specs.Vec.Iter.{into_iter_items, into_iter_len}
use Rattle.fv_engine_crew.specs.Collected.{AreChainParcels}
use Rattle.fv_engine_crew.proofs.Handed.{AreFirstWriters}
use Rattle.fv_engine_crew.proofs.returned_lanes.loops_writers.Given as goal

abbrev pub invariant-loop-parcel : goal.invariant-loop-parcel
invariant-loop-parcel l = record {
  left : into_iter_items l.parcel-iterator ≡ drop (length l.yielded) l.fn.parcels.items;
  long : into_iter_len l.parcel-iterator ≡ length (into_iter_items l.parcel-iterator);
  fewer : length l.yielded ≤ length l.fn.parcels.items;
  count : length l.writers.items ≡ length l.yielded;
  room : length l.fn.parcels.items ≤ vec_capacity l.writers;
  writers : (v : ℕ) → AreChainParcels l.start v l.fn.parcels.items → AreFirstWriters l.start v (length l.yielded) l.writers.items;
}
