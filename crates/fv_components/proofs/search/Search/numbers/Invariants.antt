use Rattle.std.proofs.Common.{◌≡◌, ℕ, ◌<◌, length}
use Rattle.fv_components.specs.headline.Reach.{at}
use Rattle.fv_components.specs.declared.search.Mark.TheVariants.{Done}
use Rattle.fv_components.specs.inner.Search.{mark}
use Rattle.fv_components.specs.inner.Search.{state_of}
use Rattle.fv_components.proofs.search.Search.numbers.Given as goal

abbrev pub invariant-loop-mark : goal.invariant-loop-mark
invariant-loop-mark l = record {
  long : length l.numbers.items ≡ l.mark-index;
  each : (s : ℕ) → s < l.mark-index → mark (state_of l.self) s ≡ Done (at l.numbers.items s);
}
