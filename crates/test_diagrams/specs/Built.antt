-- What holds of the diagrams that are put by hand.
use Rattle.std.specs.Prelude.{◌≡◌, ℕ, ◌<◌, ◌≤◌, false}
use Rattle.fv_diagram.specs.declared.node.Node.{Node}
use Rattle.fv_diagram.specs.declared.node.Node.TheVariants as node
use Rattle.fv_diagram.specs.Composed.{IsComposed}
use Rattle.fv_diagram.specs.headline.Diagram.{Diagram, is_table_primitive, has_table_primitive}
use Rattle.fv_diagram.specs.Diagram.{control_bound, IsWellFormed, HasNoFreeSlot}
use Rattle.fv_diagram.specs.Arena.{Arena, count_of, tree_of, ChildrenBelow}

-- a diagram that can run, with two controls at most
pub record CanRun (d : Diagram) : Type 0 where
  pub composed : IsComposed d
  pub plain : has_table_primitive d ≡ false
  pub well : IsWellFormed d
  pub closed : HasNoFreeSlot d
  pub reads : control_bound d ≤ 2

abbrev pub AllCanRun : Arena → Type 0
AllCanRun a = (i : ℕ) → i < count_of a → CanRun (tree_of a i)

-- a node that keeps this, over the first n diagrams and m lists
abbrev pub IsAllowed : (n m : ℕ) → Node → Type 0
IsAllowed n m (node.Prim p) = is_table_primitive p ≡ false
IsAllowed n m (node.Control k) = k < 2
IsAllowed n m (node.Slot s) = ⊥
IsAllowed n m (node.Wave t) = t < m
IsAllowed n m (node.Table t writes) = t < m
IsAllowed n m d = ChildrenBelow n d
