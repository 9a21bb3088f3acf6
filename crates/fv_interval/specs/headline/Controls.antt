-- The numbers that a program's controls may have (this project's profile).
use Rattle.std.specs.Prelude.{List, map}
use Rattle.fv_num.specs.headline.Interval.{Interval}
use Rattle.fv_diagram.specs.declared.control.ControlInfo.{ControlInfo}

-- the numbers that a control may have
abbrev pub span_of : ControlInfo → Interval
span_of c = record { lo = c.min; hi = c.max }

-- the numbers that each control may have, in the order of the controls
abbrev pub spans_of : List ControlInfo → List Interval
spans_of cs = map span_of cs
