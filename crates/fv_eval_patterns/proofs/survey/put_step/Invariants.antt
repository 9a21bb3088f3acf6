use Rattle.std.proofs.Common.{ℕ, ◌≡◌, ◌-◌, suc, vec_len}
use Rattle.std.specs.Prelude.{Some, slice_get}
use Rattle.fv_eval_patterns.specs.declared.survey.ShapeRow.{ShapeRow}
use Rattle.fv_eval_patterns.proofs.survey.put_step.Given as goal

abbrev pub invariant-widen : goal.invariant-widen
invariant-widen l = (j : ℕ) (y : ShapeRow) → slice_get l.list.items j ≡ Some (Some y) → slice_get l.fn.list.items j ≡ Some (Some y)

abbrev pub decreases-widen : goal.decreases-widen
decreases-widen l = suc l.i - vec_len l.list
