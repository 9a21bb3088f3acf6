use Rattle.fv_eval_lookup.proofs.Named.{AreSorted}
use Rattle.fv_eval_lookup.proofs.lookup.Definitions.new.Given as goal

abbrev pub invariant-loop-i : goal.invariant-loop-i
invariant-loop-i l = AreSorted l.tree l.lists.items l.i
