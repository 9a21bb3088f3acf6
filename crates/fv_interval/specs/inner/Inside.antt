-- The fields of what a walk notes.
use Rattle.fv_interval.specs.declared.walked.Walked.TheInside.{Inside}
use Rattle.fv_interval.specs.inner.SpanHooks.{Noted}

-- what the fields note
abbrev pub noted_of : Inside → Noted
noted_of a = record { controls = a.controls.items; delays = a.delays.items; fed = a.fed.items }
