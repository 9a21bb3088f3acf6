use Rattle.fv_eval_scopes.proofs.lemmas.NameTries.{HaveTries}
use Rattle.fv_eval_scopes.proofs.parameter_tries.ParameterTries.new.Given as goal

abbrev pub invariant-loop-i : goal.invariant-loop-i
invariant-loop-i l = HaveTries l.tree l.tries l.roots.items l.i
