-- What putting compositions over the diagrams of an evaluation answers, against what the rules give (this project's profile).
use Rattle.std.specs.Prelude.{◌≡◌, ◌⊎◌, ℕ, ◌<◌, ◌≤◌, Result, Ok, Err}
use Rattle.fv_diagram.specs.declared.node.Node.{Node}
use Rattle.fv_diagram.specs.declared.node.Node.TheVariants as node
use Rattle.fv_diagram.specs.headline.Diagram.{Diagram}
use Rattle.fv_diagram.specs.Composed.{IsComposed}
use Rattle.fv_diagram.specs.Arena.{Arena, count_of, tree_of}
pub use Rattle.fv_diagram_numbers.specs.Lists.{AreThere, trees_of}
use Rattle.fv_rules.specs.declared.refusal.EvalRefusal.{EvalRefusal}
use Rattle.fv_rules.specs.declared.refusal.EvalRefusal.TheVariants.{NoMemory}
use Rattle.fv_eval_scopes.specs.declared.value.Value as code_value
use Rattle.fv_eval_scopes.specs.declared.value.Value.TheVariants as value
use Rattle.fv_rules.specs.headline.Values.{Value, Flat}
use Rattle.fv_rules.specs.headline.Steps.{State, Eval, give, refuse}

-- the diagrams of an evaluation, and the table sum
pub record Canvas : Type 0 where
  pub diagrams : Arena
  pub tables : ℕ

-- each diagram of the arena is composed
abbrev pub AreComposed : Arena → Type 0
AreComposed a = (i : ℕ) → i < count_of a → IsComposed (tree_of a i)

-- the diagrams that are there stay
pub record Extends (old new : Canvas) : Type 0 where
  pub longer : count_of old.diagrams ≤ count_of new.diagrams
  pub trees : (i : ℕ) → i < count_of old.diagrams → tree_of new.diagrams i ≡ tree_of old.diagrams i

-- nothing was added but diagrams
pub record AddsDiagrams (old new : Canvas) : Type 0 where
  pub keeps : Extends old new
  pub tables : new.tables ≡ old.tables

-- this number is this diagram
pub record Draws (a : Arena) (i : ℕ) (d : Diagram) : Type 0 where
  pub inside : i < count_of a
  pub is : tree_of a i ≡ d

-- a node without parts
abbrev pub IsLeaf : Node → Type 0
IsLeaf (node.Prim p) = Unit {0}
IsLeaf (node.Number n) = Unit {0}
IsLeaf (node.Control k) = Unit {0}
IsLeaf (node.Slot s) = Unit {0}
IsLeaf (node.Wave t) = Unit {0}
IsLeaf (node.Table t writes) = Unit {0}
IsLeaf n = ⊥

-- An evaluation becomes another one: in each state with the old table sum, it comes to what the other comes to in the same
-- state with the new sum.
abbrev pub Becomes : {A : Type 0} → (old new : Canvas) → Eval A → Eval A → Type 0
Becomes old new m n = (s : State) → m (record s { tables = old.tables }) ≡ n (record s { tables = new.tables })

-- The evaluation gives the diagram with this number, and changes nothing else than the table sum; or it refuses so, or memory ran out.
abbrev pub Makes : (old new : Canvas) → Eval Diagram → Result ℕ EvalRefusal → Type 0
Makes old new m (Ok i) = (i < count_of new.diagrams) × Becomes old new m (give (tree_of new.diagrams i))
Makes old new m (Err e) = (e ≡ NoMemory) ⊎ Becomes old new m (refuse e)

-- The evaluation gives the diagram with this number as a value, and changes nothing else than the table sum; or it refuses so, or
-- memory ran out.
abbrev pub MakesValue : (old new : Canvas) → Eval Value → Result ℕ EvalRefusal → Type 0
MakesValue old new m (Ok i) = (i < count_of new.diagrams) × Becomes old new m (give (Flat (tree_of new.diagrams i)))
MakesValue old new m (Err e) = (e ≡ NoMemory) ⊎ Becomes old new m (refuse e)

-- a value that is a diagram is one of the arena
abbrev pub IsThere : Arena → code_value.Value → Type 0
IsThere a (value.Diagram i) = i < count_of a
IsThere a u = Unit {0}
