use Rattle.std.proofs.Common.{◌≡◌}
use Rattle.fv_eval_lookup.proofs.lookup.Definitions.index_functions.Given as goal

abbrev pub invariant-loop-first : goal.invariant-loop-first
invariant-loop-first l = l.self ≡ l.fn.self
