use Rattle.fv_eval_scopes.specs.Tries.{IsGrown}
use Rattle.fv_eval_scopes.specs.ParameterTries.{IsTrie}
use Rattle.fv_eval_scopes.proofs.parameter_tries.trie_of.Given as goal

abbrev pub invariant-loop-i : goal.invariant-loop-i
invariant-loop-i l = IsGrown l.fn.tries l.tries × IsTrie l.tree l.tries l.node l.i l.root
