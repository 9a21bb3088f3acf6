use Rattle.fv_eval_scopes.proofs.tries.Tries.+with.Given as goal

abbrev pub decreases-with : goal.decreases-with
decreases-with l = l.levels
