use Rattle.std.proofs.Common.{◌≡◌, ◌+◌, drop, length}
use Rattle.fv_diagram_runner.specs.inner.Code.{written}
use Rattle.fv_diagram_runner.proofs.draft.overlay.Given as goal

abbrev pub invariant-loop-i : goal.invariant-loop-i
invariant-loop-i l = (written (l.first + l.i) (drop l.i l.from) l.to ≡ written l.first l.from l.fn.to) × (length l.to ≡ length l.fn.to)
