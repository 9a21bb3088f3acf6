-- One lane among the cells of all.
use Rattle.std.specs.Prelude.{ℕ, ◌≡◌, ◌+◌, ◌≤◌, ◌<◌, List, length, ℤ}
use Rattle.fv_lines.specs.Shape.{copied_history}

-- How many cells lie before the first sample of a block: the history, which begins at the front where it is copied, and else at a
-- cell of the ring.
pub record HasOrigin (history cells origin : ℕ) : Type 0 where
  pub behind : history ≤ origin
  pub copied : history ≤ copied_history → origin ≡ history
  pub ring : copied_history < history → origin < history + cells

-- a lane of this history in these cells that has this origin
abbrev pub IsBegun : (history cells origin : ℕ) → List ℤ → Type 0
IsBegun h m o cells = (length cells ≡ m) × HasOrigin h m o
