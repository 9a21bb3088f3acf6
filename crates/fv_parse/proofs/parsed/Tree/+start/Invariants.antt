use Rattle.fv_parse.proofs.parsed.Tree.+start.Given as goal

abbrev pub decreases-start : goal.decreases-start
decreases-start l = l.id
