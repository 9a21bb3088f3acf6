use Rattle.std.proofs.Common.{ℕ, ◌≡◌, ◌<◌, false}
use Rattle.fv_diagram.specs.headline.Diagram.{Diagram}
use Rattle.fv_eval_patterns.specs.Bits.{has}
use Rattle.fv_eval_patterns.specs.Shapes.{IsShape, Never}
use Rattle.fv_eval_patterns.proofs.survey.Survey.row.Given as goal

abbrev pub invariant-loop-i : goal.invariant-loop-i
invariant-loop-i l = (x : ℕ) → x < l.i → has l.row x ≡ false → (d : Diagram) → IsShape l.tree l.self.rows l.shape d → Never l.tree x d
