-- What no call says beside `headline/Delays`: the delays of a diagram, and which of them are refused (this project's profile).
use Rattle.std.specs.Prelude.{ℕ, List}
use Rattle.fv_num.specs.headline.Interval.{Interval}
use Rattle.fv_interval.specs.declared.refusal.DelayRefusal.{DelayRefusal}
use Rattle.fv_interval.specs.declared.refusal.DelayRefusal.TheVariants as refusal
use Rattle.fv_interval.specs.Delays.{IsFirstRefused}

-- a diagram has no more delays: each node of at most 16384 has one, or one for each of at most 81920 wires that are fed back
abbrev pub most_delays : ℕ
most_delays = 1342177280

-- the refusal of a list of spans, before their sum is looked at
abbrev pub IsRefused : List Interval → DelayRefusal → Type 0
IsRefused ss refusal.NoMemory = Unit {0}
IsRefused ss e = IsFirstRefused ss e
