-- What the cells of a lane and its state hold (this project's profile).
use Rattle.std.specs.Prelude.{ℕ, ◌+◌, ◌<◌, ◌≤◌, ◌≡◌, List, ◌++◌, length, take, drop, if◌then◌else◌, nat_le, ℤ}
use Rattle.fv_lines.specs.Shape.{copied_history}
use Rattle.fv_lines.specs.declared.shape.LaneShape.{LaneShape}

-- the cells from s on, and then those before s: the ring order
abbrev pub from_start : ℕ → List ℤ → List ℤ
from_start s cells = drop s cells ++ take s cells

-- the history that the start s names
abbrev pub held : LaneShape → ℕ → List ℤ → List ℤ
held shape s cells = take shape.history (from_start s cells)

-- where that history lies once a block has begun
abbrev pub begun_at : LaneShape → ℕ → ℕ
begun_at shape s = if (nat_le shape.history copied_history) then 0 else s

-- the start s names a history there: within the cells where it is copied, at a cell where the lane is a ring
abbrev pub Holds : LaneShape → ℕ → List ℤ → Type 0
Holds shape s cells =
    (length cells ≡ shape.len) × (shape.history ≤ copied_history → s + shape.history ≤ shape.len) × (copied_history < shape.history → s < shape.len)
