use Rattle.std.proofs.Common.{◌≡◌}
use Rattle.fv_propagate.specs.inner.Progress.{passed}
use Rattle.fv_propagate.proofs.progress.Progress.pass.Given as goal

abbrev pub invariant-loop : goal.invariant-loop
invariant-loop l = l.self ≡ passed l.counter l.fn.self
