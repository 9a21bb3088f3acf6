use Rattle.std.proofs.Common.{◌≡◌}
use Rattle.fv_eval_scopes.specs.Tries.{found}
use Rattle.fv_eval_scopes.proofs.tries.Tries.find.Given as goal

abbrev pub invariant-down : goal.invariant-down
invariant-down l = found l.self l.left l.node l.rest ≡ found l.self l.levels l.root l.number

abbrev pub decreases-down : goal.decreases-down
decreases-down l = l.left
