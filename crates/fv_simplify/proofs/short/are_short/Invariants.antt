use Rattle.std.proofs.Common.{◌≡◌, ◌<◌, ◌≤◌, ℕ}
use Rattle.fv_signal.specs.declared.signal.Signal.TheVariants.{Delay}
use Rattle.fv_simplify.specs.Nodes.{node}
use Rattle.fv_simplify.specs.Reducible.{limit}
use Rattle.fv_simplify.proofs.short.are_short.Given as goal

abbrev pub invariant-loop-place : goal.invariant-loop-place
invariant-loop-place l = ((s x by most : ℕ) → s < l.place → node l.graph s ≡ Delay x by most → most ≤ limit)
