use Rattle.std.proofs.Common.{◌≡◌}
use Rattle.fv_signal.specs.declared.signal.Signal.TheVariants.{Input}
use Rattle.fv_propagate.specs.inner.Progress.{puts}
use Rattle.fv_propagate.proofs.progress.Progress.inputs.Given as goal

abbrev pub invariant-loop-i : goal.invariant-loop-i
invariant-loop-i l = (l.all.items, l.self) ≡ puts Input l.i l.fn.self
