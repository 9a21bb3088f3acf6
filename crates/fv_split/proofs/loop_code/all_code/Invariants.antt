use Rattle.std.proofs.Common.{◌≡◌, ◌++◌, length}
use Rattle.std.specs.Vec.Iter.{into_iter_items, into_iter_len}
use Rattle.fv_split.specs.inner.Lists.{AreCoded}
use Rattle.fv_split.proofs.loop_code.all_code.Given as goal

abbrev pub invariant-loop-steps : goal.invariant-loop-steps
invariant-loop-steps l = record {
  all : l.yielded ++ into_iter_items l.steps-iterator ≡ into_iter_items l.initial.steps-iterator;
  coded : AreCoded (into_iter_items l.initial.steps-iterator) (length l.yielded) l.all.items;
  long : into_iter_len l.steps-iterator ≡ length (into_iter_items l.steps-iterator);
}
