-- The code of a loop over lanes that are numbered anew (this project's profile).
use Rattle.std.specs.Prelude.{◌≡◌, ◌⊎◌, ℕ, ◌<◌, List, length, map, slice_index, Bool, true, nat_lt, ℤ}
use Rattle.fv_loopcode.specs.declared.step.Step.{Step}
use Rattle.fv_loopcode.specs.declared.step.Step.TheVariants as step
use Rattle.fv_loopcode.specs.headline.Obeys.{Roles, Place, OfLane, OfCells}
use Rattle.fv_loopcode.specs.Obeys.{Content, ObeysAt}

-- the step, with the new number of its lane
abbrev pub renumbered : (ℕ → ℕ) → Step → Step
renumbered place (step.Number n) = step.Number n
renumbered place (step.Held k) = step.Held k
renumbered place (step.Input i) = step.Input i
renumbered place (step.Point op args) = step.Point op args
renumbered place (step.Load lane back max) = step.Load (place lane) back max
renumbered place (step.Append lane value) = step.Append (place lane) value
renumbered place (step.Read table arg) = step.Read table arg
renumbered place (step.Write cells args) = step.Write cells args

-- the step's lane is one of the first lanes
abbrev pub HasPlace : (lanes : ℕ) → Step → Type 0
HasPlace lanes (step.Number n) = Unit {0}
HasPlace lanes (step.Held k) = Unit {0}
HasPlace lanes (step.Input i) = Unit {0}
HasPlace lanes (step.Point op args) = Unit {0}
HasPlace lanes (step.Load lane back max) = lane < lanes
HasPlace lanes (step.Append lane value) = lane < lanes
HasPlace lanes (step.Read table arg) = Unit {0}
HasPlace lanes (step.Write cells args) = Unit {0}

-- a place is one of the first n lanes, or cells of the loop
abbrev pub is_among : Roles → ℕ → Place → Bool
is_among r n (OfLane l) = nat_lt l n
is_among r n (OfCells k) = r.own (OfCells k)

-- the first lanes are the loop's own, and all are loaded; its cells keep their numbers
abbrev pub roles_over : Roles → (own all : ℕ) → Roles
roles_over r own all = record { own = is_among r own; loaded = λ k. nat_lt k all }

-- what the places are to hold, where lanes have new numbers: lane k is the one at k of the list
abbrev pub content_over : (locals : List ℕ) → Content → Content
content_over locals f = record {
  history = λ k. f.history (slice_index locals k);
  numbers = λ k. f.numbers (slice_index locals k);
  tables = f.tables;
  cells = f.cells;
}

-- a loop appends or loads the lane
abbrev pub IsNamed : Roles → ℕ → Type 0
IsNamed r l = (r.own (OfLane l) ≡ true) ⊎ (r.loaded l ≡ true)

-- Each lane that the loop appends or loads has its new number, and the first ones are its own.
pub record Places (r : Roles) (place : ℕ → ℕ) (locals : List ℕ) (own : ℕ) : Type 0 where
  pub there : (l : ℕ) → IsNamed r l → place l < length locals
  pub back : (l : ℕ) → IsNamed r l → slice_index locals (place l) ≡ l
  pub owned : (l : ℕ) → r.own (OfLane l) ≡ true → place l < own
  pub own_lane : (k : ℕ) → k < own → r.own (OfLane (slice_index locals k)) ≡ true
  pub forth : (k : ℕ) → k < own → place (slice_index locals k) ≡ k

-- code that obeys does so with its lanes' new numbers
abbrev pub RenumberedCodeObeys : Type 0
RenumberedCodeObeys =
    (r : Roles) (f : Content) (place : ℕ → ℕ) (locals : List ℕ) (own : ℕ) (held input : ℕ → ℤ) (index : ℕ) (steps : List Step) →
    Places r place locals own → ObeysAt r f held input index steps →
    ObeysAt (roles_over r own (length locals)) (content_over locals f) held input index (map (renumbered place) steps)
