use Rattle.std.proofs.Common.{◌≡◌}
use Rattle.fv_signal.specs.declared.signal.Signal.TheVariants.{Back}
use Rattle.fv_propagate.specs.inner.Progress.{puts}
use Rattle.fv_propagate.proofs.progress.Progress.put_backs.Given as goal

abbrev pub invariant-loop-i : goal.invariant-loop-i
invariant-loop-i l = (l.all.items, l.self) ≡ puts (Back l.group) l.i l.fn.self
