use Rattle.std.proofs.Common.{◌≡◌}
use Rattle.fv_diagram_runner.specs.inner.Code.{input_code}
use Rattle.fv_diagram_runner.proofs.draft.Draft.new.Given as goal

abbrev pub invariant-loop-i : goal.invariant-loop-i
invariant-loop-i l = l.steps.items ≡ (input_code l.i).steps
