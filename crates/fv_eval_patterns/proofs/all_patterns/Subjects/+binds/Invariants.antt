use Rattle.fv_eval_patterns.proofs.all_patterns.Subjects.+binds.Given as goal

abbrev pub decreases-binds : goal.decreases-binds
decreases-binds l = l.levels
