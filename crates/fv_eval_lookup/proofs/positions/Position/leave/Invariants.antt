use Rattle.std.proofs.Common.{◌≡◌}
use Rattle.fv_eval_lookup.proofs.positions.Position.leave.Given as goal

abbrev pub invariant-loop-row : goal.invariant-loop-row
invariant-loop-row l = l.rules ≡ l.fn.rules
