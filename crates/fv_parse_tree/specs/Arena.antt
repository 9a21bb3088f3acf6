-- The trees that the nodes of an arena are.
use Rattle.std.specs.Prelude.{◌≡◌, ℕ, ◌<◌, All, List, [], ◌∷◌, length, get_or}
use Rattle.fv_base.specs.Arena as arena
use Rattle.fv_base.specs.Arena.{AreBelowFrom, KeepsTrees}
use Rattle.fv_parse_tree.specs.declared.node.TreeId.{TreeId}
use Rattle.fv_parse_tree.specs.declared.node.TreeNode.{TreeNode}
use Rattle.fv_parse_tree.specs.declared.node.TreeNode.TheVariants as nodes
use Rattle.fv_parse_tree.specs.declared.arena.Entry.{Entry}
use Rattle.fv_parse_tree.specs.declared.pending.Pending.{Pending}
use Rattle.fv_parse_grammar.specs.headline.Tree.{Tree, Number, Negative, Named, MinusNamed, Primitive, Group, Abstraction, Case, Waveform, Iteration}
use Rattle.fv_parse_grammar.specs.headline.Tree.{Ports, Switch, Slider, Panel, Delayed, Apply, Binary, Where, Rule, Constant, Function, End, More}

-- the tree with this number
abbrev pub tree_at : List Tree → TreeId → Tree
tree_at trees id = get_or trees id End

-- the trees of these numbers in front of a list
abbrev pub forest : List Tree → List TreeId → Tree → Tree
forest trees [] y = y
forest trees (id ∷ ids) y = More (tree_at trees id) (forest trees ids y)

-- the tree of a node, by the trees before it, and how many tokens there are from its first one on
abbrev pub tree_of : List Tree → TreeNode → ℕ → Tree
tree_of trees (nodes.Number n) start = Number start n
tree_of trees (nodes.Negative n) start = Negative start n
tree_of trees (nodes.Named n) start = Named start n
tree_of trees (nodes.MinusNamed n) start = MinusNamed start n
tree_of trees (nodes.Primitive p) start = Primitive start p
tree_of trees (nodes.Group x) start = Group start (tree_at trees x)
tree_of trees (nodes.Abstraction ns x) start = Abstraction start ns.items (tree_at trees x)
tree_of trees (nodes.Case xs) start = Case start (tree_at trees xs)
tree_of trees (nodes.Waveform xs) start = Waveform start xs.items
tree_of trees (nodes.Iteration i n x y) start = Iteration start i n (tree_at trees x) (tree_at trees y)
tree_of trees (nodes.Ports s x) start = Ports start s (tree_at trees x)
tree_of trees (nodes.Switch k s) start = Switch start k s
tree_of trees (nodes.Slider k s x0 x1 x2 x3) start = Slider start k s (tree_at trees x0) (tree_at trees x1) (tree_at trees x2) (tree_at trees x3)
tree_of trees (nodes.Panel k s x) start = Panel start k s (tree_at trees x)
tree_of trees (nodes.Delayed x) start = Delayed start (tree_at trees x)
tree_of trees (nodes.Apply x ys) start = Apply start (tree_at trees x) (tree_at trees ys)
tree_of trees (nodes.Binary o x y) start = Binary start o (tree_at trees x) (tree_at trees y)
tree_of trees (nodes.Where x ys) start = Where start (tree_at trees x) (tree_at trees ys)
tree_of trees (nodes.Rule ps x) start = Rule start (tree_at trees ps) (tree_at trees x)
tree_of trees (nodes.Constant n x) start = Constant start n (tree_at trees x)
tree_of trees (nodes.Function n ps x) start = Function start n (tree_at trees ps) (tree_at trees x)
tree_of trees (nodes.List ids) start = forest trees ids.items End

-- the tree of an entry
abbrev pub entry_tree : List Tree → Entry → Tree
entry_tree trees e = tree_of trees e.node e.start

-- the tree of each entry
abbrev pub trees : List Entry → List Tree
trees es = arena.trees entry_tree es

-- numbers below this
abbrev pub AllBelow : ℕ → List TreeId → Type 0
AllBelow i ids = All (λ (id : TreeId). id < i) ids

-- a node's parts have numbers below this
abbrev pub PartsBelow : ℕ → TreeNode → Type 0
PartsBelow i (nodes.Group x) = x < i
PartsBelow i (nodes.Abstraction ns x) = x < i
PartsBelow i (nodes.Case xs) = xs < i
PartsBelow i (nodes.Iteration k n x y) = (x < i) × (y < i)
PartsBelow i (nodes.Ports s x) = x < i
PartsBelow i (nodes.Slider k s x0 x1 x2 x3) = (x0 < i) × (x1 < i) × (x2 < i) × (x3 < i)
PartsBelow i (nodes.Panel k s x) = x < i
PartsBelow i (nodes.Delayed x) = x < i
PartsBelow i (nodes.Apply x ys) = (x < i) × (ys < i)
PartsBelow i (nodes.Binary o x y) = (x < i) × (y < i)
PartsBelow i (nodes.Where x ys) = (x < i) × (ys < i)
PartsBelow i (nodes.Rule ps x) = (ps < i) × (x < i)
PartsBelow i (nodes.Constant n x) = x < i
PartsBelow i (nodes.Function n ps x) = (ps < i) × (x < i)
PartsBelow i (nodes.List ids) = AllBelow i ids.items
PartsBelow i node = Unit {0}

-- an entry's parts are earlier entries
abbrev pub EntryBelow : ℕ → Entry → Type 0
EntryBelow i e = PartsBelow i e.node

-- each entry's parts are earlier entries
abbrev pub AreOver : List Entry → Type 0
AreOver es = AreBelowFrom EntryBelow 0 es

-- an entry at a place: its parts stand before it, and the tree at this place is of it
pub record IsBuilt (es : List Entry) (i : ℕ) (e : Entry) : Type 0 where
  pub parts : PartsBelow i e.node
  pub tree : tree_at (trees es) i ≡ entry_tree (trees es) e

-- each entry is one at its place
abbrev pub AreBuilt : List Entry → Type 0
AreBuilt es = (i : ℕ) (d : Entry) → i < length es → IsBuilt es i (get_or es i d)

-- each tree of the first list has its number in the second
abbrev pub Keeps : List Tree → List Tree → Type 0
Keeps old new = KeepsTrees End old new

-- the node was added
pub record Adds (old new : List Tree) (id : TreeId) (node : TreeNode) (start : ℕ) : Type 0 where
  pub keeps : Keeps old new
  pub inside : id < length new
  pub is : tree_at new id ≡ tree_of old node start

-- parts that are joined to the right, with a tree at the end
abbrev pub lean : List Tree → List Pending → Tree → Tree
lean trees [] y = y
lean trees (p ∷ ps) y = Binary p.start p.op (tree_at trees p.left) (lean trees ps y)

-- the left parts of pending parts are there
abbrev pub AreInside : List Tree → List Pending → Type 0
AreInside trees ps = All (λ (p : Pending). p.left < length trees) ps

pub record Joins (old new : List Tree) (ps : List Pending) (last id : TreeId) : Type 0 where
  pub keeps : Keeps old new
  pub inside : id < length new
  pub is : tree_at new id ≡ lean old ps (tree_at old last)
