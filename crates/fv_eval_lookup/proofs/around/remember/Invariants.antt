use Rattle.std.proofs.Common.{◌-◌, ◌+◌, List, vec_len}
use Rattle.fv_parse.specs.Trees.{Parsed}
use Rattle.fv_eval_scopes.specs.declared.tries.Fork.{Fork}
use Rattle.fv_eval_lookup.specs.Around.{AreNested}
use Rattle.fv_eval_lookup.proofs.around.remember.Given as goal

abbrev pub invariant-grow : goal.invariant-grow
invariant-grow l = (p : Parsed) (forks : List Fork) → AreNested p forks l.fn.all.items → AreNested p forks l.all.items

abbrev pub decreases-grow : goal.decreases-grow
decreases-grow l = l.place + 1 - vec_len l.all
