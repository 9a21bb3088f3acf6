use Rattle.fv_eval_scopes.proofs.Scoped.{GoesBack}
use Rattle.fv_eval_scopes.proofs.scopes.Scopes.arguments.Given as goal

abbrev pub invariant-back : goal.invariant-back
invariant-back l = GoesBack l.self.taken l.count l.last l.left l.at l.arguments.items

abbrev pub decreases-back : goal.decreases-back
decreases-back l = l.left
