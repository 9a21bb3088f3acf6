-- The numbers that a register had, and those of a table (this project's profile).
use Rattle.std.specs.Prelude.{ℕ, ◌≤◌, List, map, ℤ}
use Rattle.fv_diagram_runner.specs.declared.step.Change.{Change}
use Rattle.fv_diagram_runner.specs.declared.step.Change.TheVariants as change

-- numbers, the earliest one first, and for how many more there is room
pub record Numbers : Type 0 where
  pub numbers : List ℤ
  pub room : ℕ

-- the lists without their rooms
abbrev pub numbers_of : List Numbers → List (List ℤ)
numbers_of hs = map (λ h. h.numbers) hs

-- there is room for one number more, where the change appends one
abbrev pub HasRoom : Change → Numbers → Type 0
HasRoom (change.Append w) h = 1 ≤ h.room
HasRoom change.Keep h = Unit {0}
HasRoom (change.Put w x) h = Unit {0}
