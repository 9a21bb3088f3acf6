-- The delays of a diagram, and which of them are refused (this project's profile).
use Rattle.std.specs.Prelude.{ℕ, List, map, unsigned_abs}
use Rattle.fv_base.specs.declared.limits.TheConstants.{DELAY_BUDGET, DELAY_LIMIT}
use Rattle.fv_num.specs.headline.Frames.{table}
use Rattle.fv_num.specs.headline.Interval.{Interval, full}
use Rattle.fv_diagram.specs.headline.Diagram.{Diagram, inputs}
use Rattle.fv_interval.specs.headline.SpanHooks.{control_span}
use Rattle.fv_interval.specs.headline.WireSpans.{delay_spans}

-- the spans of a diagram's delays, where its inputs have all numbers and its controls those of their spans
abbrev pub delays_of : Diagram → List Interval → List Interval
delays_of d controls = delay_spans d (control_span controls) (λ s. full) (table (inputs d) (λ i. full))

-- the greatest delay of a span
abbrev pub amount : Interval → ℕ
amount s = unsigned_abs s.hi

-- the greatest delay of each span
abbrev pub amounts : List Interval → List ℕ
amounts ss = map amount ss
