use Rattle.std.proofs.Common.{◌≡◌, ◌≤◌, length, take, vec_len}
use Rattle.fv_steal.specs.inner.Assembled.{AreParts}
use Rattle.fv_steal.proofs.crew.parts_of.Given as goal

abbrev pub invariant-loop-deque : goal.invariant-loop-deque
invariant-loop-deque g l = record {
  deques : l.deques.items ≡ take (length l.deques.items) l.initial.deques.items;
  all : l.all.items ≡ take (length l.deques.items) l.initial.all.items;
  long : length l.all.items ≡ length l.deques.items;
  low : length l.deques.items ≤ length l.initial.deques.items;
  parts : AreParts l.room l.most l.initial.deques.items l.initial.all.items (length l.deques.items) l.parts.items;
}

abbrev pub decreases-loop-deque : goal.decreases-loop-deque
decreases-loop-deque g l = vec_len l.deques
