use Rattle.std.proofs.Common.{◌<◌, ℕ, get_or}
use Rattle.fv_num.specs.headline.Interval.{IsSpan}
use Rattle.fv_control.specs.headline.Script.{no_control}
use Rattle.fv_interval.specs.headline.Controls.{span_of}
use Rattle.fv_engine_render.proofs.controls.spans_fit.Given as goal

abbrev pub invariant-loop-control : goal.invariant-loop-control
invariant-loop-control l = (k : ℕ) → k < l.control-index → IsSpan (span_of (get_or l.controls k no_control))
