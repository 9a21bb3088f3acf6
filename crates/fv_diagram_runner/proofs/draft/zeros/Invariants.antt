use Rattle.std.proofs.Common.{◌≡◌, replicate, pos}
use Rattle.fv_diagram_runner.proofs.draft.zeros.Given as goal

abbrev pub invariant-loop : goal.invariant-loop
invariant-loop l = l.v.items ≡ replicate l.counter (pos 0)
