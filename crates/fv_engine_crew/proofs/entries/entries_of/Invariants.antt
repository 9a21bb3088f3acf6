use Rattle.std.proofs.Common.{◌≡◌, ◌≤◌, ◌++◌, length, vec_capacity}
use Rattle.std.specs.Vec.Iter.{into_iter_items, into_iter_len}
use Rattle.fv_engine_crew.specs.declared.parcel.LoopParcel.{LoopParcel}
use Rattle.fv_steal.specs.Parcels.{AreParcelsFrom}
use Rattle.fv_engine_crew.proofs.entries.entries_of.Given as goal

abbrev pub invariant-loop-one : goal.invariant-loop-one
invariant-loop-one l = record {
  all : l.yielded ++ into_iter_items l.one-iterator ≡ into_iter_items l.initial.one-iterator;
  entries : AreParcelsFrom (λ (p : LoopParcel). p.edge) (λ (p : LoopParcel). p.start.value) l.start 0 (length l.yielded) l.entries.items;
  long : into_iter_len l.one-iterator ≡ length (into_iter_items l.one-iterator);
  room : length (into_iter_items l.initial.one-iterator) ≤ vec_capacity l.entries;
}
