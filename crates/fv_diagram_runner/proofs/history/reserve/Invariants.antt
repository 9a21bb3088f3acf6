use Rattle.std.proofs.Common.{◌≡◌, length}
use Rattle.fv_diagram_runner.specs.History.{numbers_of}
use Rattle.fv_diagram_runner.proofs.Histories.{HaveRoom}
use Rattle.fv_diagram_runner.proofs.history.reserve.Given as goal

abbrev pub invariant-loop-i : goal.invariant-loop-i
invariant-loop-i l = (numbers_of l.lists ≡ numbers_of l.fn.lists) × (length l.lists ≡ length l.fn.lists) × HaveRoom l.changes l.lists l.i
