use Rattle.std.proofs.Common.{◌<◌, ℕ}
use Rattle.fv_base.specs.headline.Lists.{at}
use Rattle.fv_simplify.specs.inner.Alike.{IsAlike}
use Rattle.fv_simplify.proofs.foldings.folds.Given as goal

abbrev pub invariant-loop-place : goal.invariant-loop-place
invariant-loop-place l = ((s : ℕ) → s < l.place → IsAlike l.graph (at l.images) s)
