-- The controls of a program (this project's profile).
use Rattle.std.specs.Prelude.{◌≤ℤ◌}
use Rattle.fv_diagram.specs.declared.control.ControlInfo.{ControlInfo}

-- the initial value lies between the least and the greatest one
abbrev pub IsBounded : ControlInfo → Type 0
IsBounded c = (c.min ≤ℤ c.init) × (c.init ≤ℤ c.max)
