use Rattle.std.proofs.Common.{◌≡◌}
use Rattle.fv_eval_lookup.proofs.lookup.Definitions.index_all.Given as goal

abbrev pub invariant-loop-i : goal.invariant-loop-i
invariant-loop-i l = l.self ≡ l.fn.self
