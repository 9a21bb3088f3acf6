-- What the numbers of an evaluation's lists stand for (this project's profile).
use Rattle.std.specs.Prelude.{◌≡◌, ◌⊎◌, ℕ, suc, ◌<◌, List, [], ◌∷◌, ◌++◌, map, filter, drop, Option, Some, None, slice_get}
use Rattle.fv_parse.specs.Token.{Lexed}
use Rattle.fv_parse.specs.Tree.{Tree, items, start_of}
use Rattle.fv_parse.specs.Tree as tree
use Rattle.fv_diagram.specs.headline.Diagram.{Diagram, Slot}
use Rattle.fv_diagram.specs.Arena.{Arena, count_of, tree_of}
use Rattle.fv_parse.specs.headline.Trees.{text_of}
use Rattle.fv_parse.specs.Trees.{Parsed, size_of, tree_in, first_named}
use Rattle.fv_parse.specs.TreeId.{TreeId}
use Rattle.fv_eval_scopes.specs.declared.value.Ruled.{Ruled}
use Rattle.fv_eval_scopes.specs.declared.value.Ruled.TheVariants as ruled
use Rattle.fv_eval_scopes.specs.declared.value.Value as code_value
use Rattle.fv_eval_scopes.specs.declared.value.Value.TheVariants as value
use Rattle.fv_eval_scopes.specs.declared.value.Scope as code_scope
use Rattle.fv_eval_scopes.specs.declared.value.Scope.TheVariants as scope
use Rattle.fv_eval_scopes.specs.declared.value.Argument as code_argument
use Rattle.fv_eval_scopes.specs.declared.value.Binding as code_binding
use Rattle.fv_eval_scopes.specs.declared.value.Meaning as code_meaning
use Rattle.fv_eval_scopes.specs.declared.value.Meaning.TheVariants as meaning
use Rattle.fv_eval_scopes.specs.Environments.{scope_in}
use Rattle.fv_rules.specs.headline.Values.{Name, Rule, Value, Flat, Abstraction, Rules, Env, Outermost, Bound, Scope, Taken, Nothing, And, Plain, Parameters}
use Rattle.fv_rules.specs.headline.Values.{Cases, Meaning, IsValue, IsDefined, Unknown, rule_of, is_of, names_of}
use Rattle.fv_rules.specs.headline.Matching.{Bindings}

-- The lists of an evaluation: the tree, the diagrams, the environments and the arguments that rules have taken.
pub record World : Type 0 where
  pub tree : Parsed
  pub diagrams : Arena
  pub scopes : List code_scope.Scope
  pub taken : List code_argument.Argument

-- this node is this tree
abbrev pub ShowsTree : World → TreeId → Tree → Type 0
ShowsTree w id x = (id < size_of w.tree) × (tree_in w.tree id ≡ x)

-- this number is this diagram
abbrev pub Draws : World → ℕ → Diagram → Type 0
Draws w i d = (i < count_of w.diagrams) × (tree_of w.diagrams i ≡ d)

-- this token is the first one with the bytes of this name
abbrev pub IsNamed : World → ℕ → Name → Type 0
IsNamed w n x = (text_of w.tree.tokens n ≡ x) × (first_named w.tree.tokens n ≡ n)

-- names, where all are names
abbrev pub given_names : Option (List Name) → List Name
given_names None = []
given_names (Some xs) = xs

-- what an abstraction or a definition binds
abbrev pub parameters_in : Lexed → Tree → List Name
parameters_in l (tree.Abstraction s ns x) = map (text_of l) ns
parameters_in l (tree.Function s n ps x) = given_names (names_of l (items ps))
parameters_in l x = []

-- the body of an abstraction or a definition
abbrev pub body_in : Tree → Tree
body_in (tree.Abstraction s ns x) = x
body_in (tree.Function s n ps x) = x
body_in x = x

-- the rules of a `case`, as they are spelled
abbrev pub case_in : Tree → List Tree
case_in (tree.Case s rs) = items rs
case_in x = []

-- the name of a definition by patterns
abbrev pub name_in : Lexed → Tree → Name
name_in l (tree.Function s n ps x) = text_of l n
name_in l x = []

-- the rules that stand there
abbrev pub rules_in : Parsed → Ruled → List Rule
rules_in p (ruled.Case id) = map rule_of (case_in (tree_in p id))
rules_in p (ruled.Definitions list first) = map rule_of (filter (is_of p.tokens (name_in p.tokens (tree_in p first))) (items (tree_in p list)))

-- how many tokens there are from the first one of the rules on
abbrev pub begins_in : Parsed → Ruled → ℕ
begins_in p (ruled.Case id) = start_of (tree_in p id)
begins_in p (ruled.Definitions list first) = start_of (tree_in p first)

-- a definition by patterns
abbrev pub IsFunction : Tree → Type 0
IsFunction (tree.Function s n ps x) = Unit {0}
IsFunction x = ⊥

-- the nodes are there
abbrev pub IsInside : Parsed → Ruled → Type 0
IsInside p (ruled.Case id) = id < size_of p
IsInside p (ruled.Definitions list first) = (list < size_of p) × (first < size_of p) × IsFunction (tree_in p first)

-- the innermost scope of an environment binds a name to a slot: it is a parameter, and this environment is around it
pub record IsSlot (w : World) (i j : ℕ) (x : Name) (v : Value) : Type 0 where
  pub node : ℕ
  pub parameter : ℕ
  pub slot : ℕ
  pub kept : scope_in w.scopes i ≡ Some (scope.Slots node parameter slot j)
  pub inside : node < size_of w.tree
  pub name : slice_get (parameters_in w.tree.tokens (tree_in w.tree node)) parameter ≡ Some x
  pub value : v ≡ Flat (Slot slot)

-- values, environments and arguments, by their numbers
abbrev mutual
  -- this value is that one
  pub ShowsValue : World → code_value.Value → Value → Type 0
  ShowsValue w (value.Diagram i) (Flat d) = Draws w i d
  ShowsValue w (value.Abstraction f n e) (Abstraction x xs b E) =
      (f < size_of w.tree) × (drop n (parameters_in w.tree.tokens (tree_in w.tree f)) ≡ x ∷ xs) × (body_in (tree_in w.tree f) ≡ b) × ShowsEnv w e E
  ShowsValue w (value.Rules r e n i) (Rules s rs E T) =
      IsInside w.tree r × (begins_in w.tree r ≡ s) × (rules_in w.tree r ≡ rs) × ShowsEnv w e E × ShowsTaken w n i T
  ShowsValue w u v = ⊥

  -- this number is this environment; the one around it has a lower number
  pub ShowsEnv : World → ℕ → Env → Type 0
  ShowsEnv w i Outermost = i ≡ 0
  ShowsEnv w i (Bound x v E) =
      (j : ℕ) × (j < i) × ShowsEnv w j E
      × (((n : ℕ) × (u : code_value.Value) × (scope_in w.scopes i ≡ Some (scope.Bound n u j)) × IsNamed w n x × ShowsValue w u v) ⊎ IsSlot w i j x v)
  ShowsEnv w i (Scope ds E) =
      (id : TreeId) × (j : ℕ) × (scope_in w.scopes i ≡ Some (scope.Definitions id j)) × (j < i) × ShowsTree w id ds × ShowsEnv w j E

  -- a number of arguments, of which the last one has this number
  pub ShowsTaken : World → ℕ → ℕ → Taken → Type 0
  ShowsTaken w n i Nothing = n ≡ 0
  ShowsTaken w n i (And v T) =
      (m : ℕ) × (a : code_argument.Argument) × (n ≡ suc m) × (slice_get w.taken i ≡ Some a) × ShowsValue w a.value v × ShowsTaken w m a.before T

-- these values, in order
abbrev pub ShowsValues : World → List code_value.Value → List Value → Type 0
ShowsValues w us [] = us ≡ []
ShowsValues w us (v ∷ vs) = (u : code_value.Value) × (more : List code_value.Value) × (us ≡ u ∷ more) × ShowsValue w u v × ShowsValues w more vs

-- names with what they are bound to, the last one last in the code's list
abbrev pub ShowsBindings : World → List code_binding.Binding → Bindings → Type 0
ShowsBindings w bs [] = bs ≡ []
ShowsBindings w bs (nv ∷ more) =
    (front : List code_binding.Binding) × (b : code_binding.Binding) × (bs ≡ front ++ b ∷ [])
    × IsNamed w b.name nv.0 × ShowsValue w b.value nv.1 × ShowsBindings w front more

-- What a name stands for. The code makes an abstraction and rules of a definition at once.
abbrev pub ShowsMeaning : World → code_meaning.Meaning → Meaning → Type 0
ShowsMeaning w (meaning.Known u) (IsValue v) = ShowsValue w u v
ShowsMeaning w (meaning.Slot k) (IsValue v) = v ≡ Flat (Slot k)
ShowsMeaning w (meaning.Known u) (IsDefined (Parameters x xs b) E) = ShowsValue w u (Abstraction x xs b E)
ShowsMeaning w (meaning.Known u) (IsDefined (Cases s rs) E) = ShowsValue w u (Rules s rs E Nothing)
ShowsMeaning w (meaning.Body id e) (IsDefined (Plain x) E) = ShowsTree w id x × ShowsEnv w e E
ShowsMeaning w meaning.Unknown Unknown = Unit {0}
ShowsMeaning w m n = ⊥

-- The lists have grown: what stands at a place stays there.
pub record Grows (old new : World) : Type 0 where
  pub tree : new.tree ≡ old.tree
  pub diagrams : (i : ℕ) (d : Diagram) → Draws old i d → Draws new i d
  pub scopes : (i : ℕ) (x : code_scope.Scope) → slice_get old.scopes i ≡ Some x → slice_get new.scopes i ≡ Some x
  pub taken : (i : ℕ) (x : code_argument.Argument) → slice_get old.taken i ≡ Some x → slice_get new.taken i ≡ Some x
