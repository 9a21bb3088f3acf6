-- The changes of one job's controls among those of several (this project's profile).
use Rattle.std.specs.Prelude.{ℕ, ◌+◌, ◌-◌, ◌&&◌, nat_le, nat_lt, List, length, take, Option, Some, None, if◌then◌else◌}
use Rattle.std.specs.List.{filter_map, sum_by}
use Rattle.fv_diagram.specs.declared.control.ControlInfo.{ControlInfo}
use Rattle.fv_control.specs.declared.script.Change.{Change}

-- the number of controls that the jobs before job k have
abbrev pub controls_before : List (List ControlInfo) → (k : ℕ) → ℕ
controls_before jobs k = sum_by length (take k jobs)

-- a change of one of the n controls after the first ones, as if there were no others
abbrev pub own_change : (first n : ℕ) → Change → Option Change
own_change first n c = if nat_le first c.control && nat_lt c.control (first + n) then Some (record c { control = c.control - first }) else None

-- The changes of the n controls after the first ones, in order.
abbrev pub changes_of : (first n : ℕ) → List Change → List Change
changes_of first n changes = filter_map (own_change first n) changes
