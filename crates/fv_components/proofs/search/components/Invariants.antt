use Rattle.std.proofs.Common.{◌≡◌, ◌≢◌, ℕ, ◌<◌, length}
use Rattle.fv_components.specs.declared.search.Mark.TheVariants.{New}
use Rattle.fv_components.specs.inner.Search.{IsRunning, mark, none}
use Rattle.fv_components.specs.Reach.{next_of}
use Rattle.fv_components.specs.inner.Search.{state_of}
use Rattle.fv_components.proofs.search.components.Given as goal

abbrev pub invariant-loop-root : goal.invariant-loop-root
invariant-loop-root l = record {
  running : IsRunning (next_of l.links) (length l.links) none (state_of l.search);
  empty : length l.search.classes.items ≡ 0;
  met : (s : ℕ) → s < l.root → mark (state_of l.search) s ≢ New;
}
