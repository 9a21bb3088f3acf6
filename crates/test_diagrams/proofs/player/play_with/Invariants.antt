use Rattle.std.proofs.Common.{◌≡◌, ◌≤◌, length, take}
use Rattle.std.specs.List.{AllByRecursion}
use Rattle.fv_num.specs.headline.Frames.{column, table, rows}
use Rattle.fv_control.specs.Laws.{applied}
use Rattle.fv_diagram.specs.Arena.{tree_of}
use Rattle.fv_diagram.specs.headline.Diagram.{outputs}
use Rattle.fv_diagram_runner.specs.Steps.{StandsFor}
use Rattle.fv_diagram.specs.headline.Streams.{run}
use Rattle.fv_diagram.specs.headline.Samples.{joined, no_slots}
use Rattle.fv_control.proofs.lemmas.Listening.{heard_at}
use Rattle.test_diagrams.proofs.player.play_with.Given as goal

-- the stepper stands for the diagram after the frames so far, what it gave is in the answer, and the values are those after the
-- changes that have come
abbrev pub invariant-loop-i : goal.invariant-loop-i
invariant-loop-i l =
    let d = tree_of l.diagrams l.fn.root in
    let C = table l.i (heard_at l.changes l.initial.values) in
    let X = rows l.width l.i l.samples in
    record {
      stands : StandsFor l.stepper d C X;
      answer : l.answer.items ≡ joined (run d (column C) no_slots X);
      out : length l.out ≡ outputs d;
      within : l.at ≤ length l.changes;
      values : l.values ≡ applied l.initial.values (take l.at l.changes);
      come : AllByRecursion (λ c. c.frame ≤ l.i) (take l.at l.changes);
    }
