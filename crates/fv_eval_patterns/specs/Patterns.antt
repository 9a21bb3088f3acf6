-- What matching answers, over the lists of an evaluation (this project's profile).
use Rattle.std.specs.Prelude.{◌≡◌, ℕ, ◌+◌, ◌<◌, Bool, true, false, List, [], ◌∷◌, ◌++◌, map, reverse, All, Option, Some, None}
use Rattle.std.specs.List.{sum_by}
use Rattle.fv_parse.specs.Token.{Lexed}
use Rattle.fv_parse_grammar.specs.headline.Tree.{Tree}
use Rattle.fv_diagram.specs.declared.node.DiagramId.{DiagramId}
use Rattle.fv_diagram.specs.declared.node.Node.{Node}
use Rattle.fv_diagram.specs.declared.node.Node.TheVariants as node
use Rattle.fv_diagram.specs.headline.Diagram.{Diagram, size}
use Rattle.fv_diagram.specs.Composed.{IsComposed}
use Rattle.fv_diagram.specs.Arena.{Arena, count_of, tree_of}
use Rattle.fv_parse.specs.headline.Trees.{text_of}
use Rattle.fv_parse.specs.Trees.{Parsed, size_of, tree_in, first_named}
use Rattle.fv_eval_scopes.specs.declared.value.Value as code_value
use Rattle.fv_eval_scopes.specs.declared.value.Value.TheVariants as value
use Rattle.fv_eval_scopes.specs.declared.value.Binding as code_binding
use Rattle.fv_eval_patterns.specs.declared.value_patterns.Pair.{Pair}
use Rattle.fv_rules.specs.headline.Values.{Flat}
use Rattle.fv_rules.specs.headline.Matching.{Bindings, matched, and_then}
use Rattle.fv_eval_scopes.specs.declared.memo.Known.{Known}
use Rattle.fv_eval_scopes.specs.Memo.{Remembers, AddsIntegers}
use Rattle.fv_eval_scopes.specs.Shows.{World, ShowsBindings}

-- a value that is a diagram is one of the arena, and composed
abbrev pub IsValid : Arena → code_value.Value → Type 0
IsValid a (value.Diagram i) = (i < count_of a) × IsComposed (tree_of a i)
IsValid a u = Unit {0}

-- a value is no diagram
abbrev pub IsNoDiagram : code_value.Value → Type 0
IsNoDiagram (value.Diagram i) = ⊥
IsNoDiagram u = Unit {0}

-- with other diagrams
abbrev pub with_diagrams : World → Arena → World
with_diagrams w a = record w { diagrams = a }

-- it matches, and the bindings stand in the code's list; or it does not
abbrev pub ShowsMatched : World → Bool → List code_binding.Binding → Option Bindings → Type 0
ShowsMatched w true found (Some bs) = ShowsBindings w found bs
ShowsMatched w false found None = Unit {0}
ShowsMatched w b found o = ⊥

-- it matches, and these are the bindings that are handed out; or it does not
abbrev pub ShowsMatch : World → Option (List code_binding.Binding) → Option Bindings → Type 0
ShowsMatch w (Some found) (Some bs) = ShowsBindings w found bs
ShowsMatch w None None = Unit {0}
ShowsMatch w o p = ⊥

-- patterns that are still to be matched against diagrams, one after the other
abbrev pub matched_on : Lexed → List (Tree × Diagram) → Bindings → Option Bindings
matched_on l [] bs = Some bs
matched_on l (pd ∷ more) bs = and_then (matched l pd.0 (Flat pd.1) bs) (matched_on l more)

-- a pattern and a diagram, by their numbers
abbrev pub pair_of : Parsed → Arena → Pair → Tree × Diagram
pair_of p a x = (tree_in p x.pattern, tree_of a x.diagram)

-- the patterns and diagrams of a stack of pairs, the last one first
abbrev pub waiting : Parsed → Arena → List Pair → List (Tree × Diagram)
waiting p a pending = map (pair_of p a) (reverse pending)

-- both are there, and the diagram is composed
pub record IsPair (p : Parsed) (a : Arena) (x : Pair) : Type 0 where
  pub pattern : x.pattern < size_of p
  pub diagram : x.diagram < count_of a
  pub composed : IsComposed (tree_of a x.diagram)

-- the name of a token was bound to a value after the bindings so far
pub record BindsName (p : Parsed) (n : ℕ) (u : code_value.Value) (before after : List code_binding.Binding) : Type 0 where
  pub name : ℕ
  pub pushed : after ≡ before ++ record { name = name; value = u } ∷ []
  pub text : text_of p.tokens name ≡ text_of p.tokens n
  pub canonical : first_named p.tokens name ≡ name

-- nothing matches
abbrev pub Refuses : Parsed → Arena → Pair → Type 0
Refuses p a x = (rest : List (Tree × Diagram)) (bs : Bindings) → matched_on p.tokens (pair_of p a x ∷ rest) bs ≡ None

-- one pattern was tried on one diagram: more pairs wait, and the rest goes on with them and with the bindings as they are now
pub record Leaves (p : Parsed) (a b : Arena) (x : Pair) (waited waits : List Pair) (before after : List code_binding.Binding) : Type 0 where
  pub more : List Pair
  pub pushed : waits ≡ waited ++ more
  pub there : All (IsPair p a) more
  pub below : All (λ (y : Pair). y.diagram < x.diagram) more
  pub smaller : sum_by (λ (y : Pair). size (tree_of a y.diagram)) more < size (tree_of a x.diagram)
  pub meant : (w : World) (bs : Bindings) → w.tree ≡ p → w.diagrams ≡ a → ShowsBindings w before bs
      → (cs : Bindings) × ShowsBindings (with_diagrams w b) after cs
      × ((rest : List (Tree × Diagram)) → matched_on p.tokens (pair_of p a x ∷ rest) bs ≡ matched_on p.tokens (waiting p a more ++ rest) cs)

-- the parts of a diagram that a pattern goes on with
abbrev pub are_parts : Arena → DiagramId × DiagramId → Diagram × Diagram
are_parts a ij = (tree_of a ij.0, tree_of a ij.1)

-- the parts of a node that is a composition
abbrev pub both_parts : Node → Option (DiagramId × DiagramId)
both_parts (node.Par i j) = Some (i, j)
both_parts (node.Seq i j) = Some (i, j)
both_parts (node.Split i j) = Some (i, j)
both_parts (node.Merge i j) = Some (i, j)
both_parts (node.Rec i j) = Some (i, j)
both_parts n = None

-- two parts of a diagram are there, and composed
pub record ArePartsOf (a : Arena) (id : ℕ) (ij : DiagramId × DiagramId) : Type 0 where
  pub left : ij.0 < id
  pub right : ij.1 < id
  pub left_composed : IsComposed (tree_of a ij.0)
  pub right_composed : IsComposed (tree_of a ij.1)
  pub sizes : size (tree_of a ij.0) + size (tree_of a ij.1) < size (tree_of a id)

-- what stays true while pairs wait: the rest of them, with the bindings so far, is the whole
pub record GoesOn (p : Parsed) (first now : Arena) (ks : List Known) (whole : Pair) (pending : List Pair)
    (before after : List code_binding.Binding) : Type 0 where
  pub adds : AddsIntegers first now
  pub known : Remembers now ks
  pub there : All (IsPair p first) pending
  pub meant : (w : World) (bs : Bindings) → w.tree ≡ p → w.diagrams ≡ first → ShowsBindings w before bs
      → (cs : Bindings) × ShowsBindings (with_diagrams w now) after cs
      × (matched_on p.tokens (waiting p first pending) cs ≡ matched p.tokens (tree_in p whole.pattern) (Flat (tree_of first whole.diagram)) bs)
