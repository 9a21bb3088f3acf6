-- What `headline/Heads` says in other words: which parts a table's head is, and what a diagram that is fixed has none of (this
-- project's profile).
use Rattle.std.specs.Prelude.{◌≡◌, ◌⊎◌, ◌↔◌, ℕ, ◌<◌, ◌≤◌, true, false, List, [], ◌++◌, length, take}
use Rattle.fv_diagram.specs.headline.Diagram.{Diagram, inputs, has_table_primitive}
use Rattle.fv_diagram.specs.Diagram.{control_bound, HasNoFreeSlot}
use Rattle.fv_diagram_numbers.specs.headline.Heads.{all_outputs, cut, is_fixed}

-- The list is these and the rest. These have the wanted outputs together, or there is no rest; fewer of them do not have them.
pub record IsCut (wanted : ℕ) (ds these rest : List Diagram) : Type 0 where
  pub whole : ds ≡ these ++ rest
  pub enough : (wanted ≤ all_outputs these) ⊎ (rest ≡ [])
  pub fewest : (i : ℕ) → i < length these → all_outputs (take i these) < wanted

-- `cut` answers exactly these two lists
abbrev pub CutsAreFewest : Type 0
CutsAreFewest = (wanted : ℕ) (ds these rest : List Diagram) → (cut wanted ds ≡ (these, rest)) ↔ IsCut wanted ds these rest

-- a diagram that takes nothing and depends on nothing
pub record DependsOnNothing (d : Diagram) : Type 0 where
  pub takes_none : inputs d ≡ 0
  pub closed : HasNoFreeSlot d
  pub controls : control_bound d ≡ 0
  pub plain : has_table_primitive d ≡ false

-- exactly the diagrams that depend on nothing are fixed
abbrev pub FixedDependsOnNothing : Type 0
FixedDependsOnNothing = (d : Diagram) → (is_fixed d ≡ true) ↔ DependsOnNothing d
