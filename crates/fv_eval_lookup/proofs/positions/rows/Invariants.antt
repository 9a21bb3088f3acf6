use Rattle.std.proofs.Common.{All, filter}
use Rattle.fv_eval_lookup.specs.declared.positions.Row.{Row}
use Rattle.fv_eval_lookup.specs.Positions.{HasBoth, is_for}
use Rattle.fv_eval_lookup.proofs.positions.rows.Given as goal

abbrev pub invariant-loop-key : goal.invariant-loop-key
invariant-loop-key l = All (λ (r : Row). HasBoth l.free (filter (is_for r.key) l.wants) r.rules) l.rows.items
