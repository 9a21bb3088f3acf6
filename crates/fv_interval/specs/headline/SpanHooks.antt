-- What a walk makes of spans (this project's profile).
use Rattle.std.specs.Prelude.{ℕ, List, get_or}
use Rattle.fv_num.specs.headline.Interval.{Interval, full}

-- the span of control k
abbrev pub control_span : List Interval → ℕ → Interval
control_span cs k = get_or cs k full
