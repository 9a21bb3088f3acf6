use Rattle.std.proofs.Common.{take}
use Rattle.fv_eval_lookup.proofs.Arounds.{HasNames}
use Rattle.fv_eval_lookup.proofs.around.with_names.Given as goal

abbrev pub invariant-loop-defined : goal.invariant-loop-defined
invariant-loop-defined l = HasNames l.fn.tries l.tries l.list l.around l.root (take l.defined-index l.listed)
