use Rattle.std.proofs.Common.{◌<◌, ℕ, get_or, pos, FitsSigned, w32}
use Rattle.fv_engine_render.proofs.controls.numbers_fit.Given as goal

abbrev pub invariant-loop-number : goal.invariant-loop-number
invariant-loop-number l = (k : ℕ) → k < l.number-index → FitsSigned w32 (get_or l.numbers k (pos 0))
