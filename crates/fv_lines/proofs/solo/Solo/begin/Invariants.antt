use Rattle.fv_lines.proofs.Opens.{AreOpened}
use Rattle.fv_lines.proofs.solo.Solo.begin.Given as goal

abbrev pub invariant-loop-lane : goal.invariant-loop-lane
invariant-loop-lane l =
    AreOpened (record { lengths = l.layout; shapes = l.shapes; states = l.fn.states; cells = l.fn.cells }) l.begun l.cells l.lane
