-- Binary trees in an arena, in which numbers are found by their lowest bits (this project's profile).
use Rattle.std.specs.Prelude.{◌≡◌, ◌⊎◌, ℕ, zero, suc, ◌%◌, ◌/◌, ◌≤◌, List, ◌++◌, length, Option, Some, None, slice_get}
use Rattle.fv_eval_scopes.specs.declared.tries.Fork.{Fork}

-- where a bit leads from a fork
abbrev pub child_of : Option Fork → ℕ → ℕ
child_of None bit = 0
child_of (Some f) zero = f.zero
child_of (Some f) (suc bit) = f.one

-- where a bit leads from a node; node 0 has nothing, the others are numbered from 1 on
abbrev pub child : List Fork → (node bit : ℕ) → ℕ
child forks zero bit = 0
child forks (suc i) bit = child_of (slice_get forks i) bit

-- where the lowest bits of a number lead from a node, the lowest one first: one bit a level
abbrev pub found : List Fork → (levels node number : ℕ) → ℕ
found forks zero node number = node
found forks (suc n) node number = found forks n (child forks node (number % 2)) (number / 2)

-- the nodes of this many levels are there
abbrev pub AreThere : List Fork → (levels node : ℕ) → Type 0
AreThere forks zero node = Unit {0}
AreThere forks (suc n) node = (node ≤ length forks) × ((bit : ℕ) → AreThere forks n (child forks node bit))

-- there are more
abbrev pub IsGrown : List Fork → List Fork → Type 0
IsGrown old new = (more : List Fork) × (new ≡ old ++ more)

-- In a new trie a number has a value, and each number with other lowest bits has what it had.
pub record IsWith (old new : List Fork) (levels root number value with_it : ℕ) : Type 0 where
  pub there : AreThere new levels with_it
  pub leads : (k : ℕ) → (found new levels with_it k ≡ value)
      ⊎ ((k ≡ number → ⊥) × (found new levels with_it k ≡ found old levels root k))
