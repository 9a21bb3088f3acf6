-- Nodes of other forms.
use Rattle.std.proofs.Common.{◌≡◌, ℕ, List, [], ◌∷◌, None, Vec, refl}
use Rattle.std.specs.declared.alloc.Global.{Global}
use Rattle.fv_parse.specs.TreeId.{TreeId}
use Rattle.fv_parse.specs.TreeNode.{TreeNode}
use Rattle.fv_parse.specs.TreeNode.TheVariants as nodes
use Rattle.fv_parse.specs.Arena.{tree_of, forest}
use Rattle.fv_parse_grammar.specs.Slider.{Slider as SliderKind}
use Rattle.fv_parse_grammar.specs.headline.Tree.{Tree, End}
use Rattle.fv_eval_scopes.specs.Shows.{body_in}
use Rattle.fv_eval.specs.inner.Continuations.{parameters_of}
use Rattle.fv_eval.specs.inner.Names.{defined_by}

pub own_body : (ts : List Tree) (node : TreeNode) (start : ℕ) → ((ns : Vec ℕ Global) (x : TreeId) → node ≡ nodes.Abstraction ns x → ⊥)
    → ((n : ℕ) (ps x : TreeId) → node ≡ nodes.Function n ps x → ⊥) → tree_of ts node start ≡ body_in (tree_of ts node start)
own_body ts (nodes.Abstraction ns x) start a b = absurd (a ns x refl)
own_body ts (nodes.Function n ps x) start a b = absurd (b n ps x refl)
own_body ts (nodes.List ids) start a b = other ids.items
  where
    other : (is : List TreeId) → forest ts is End ≡ body_in (forest ts is End)
    other [] = refl
    other (i ∷ is) = refl
own_body ts node start a b = refl

pub no_slider : (ts : List Tree) (node : TreeNode) (start : ℕ)
    → ((k : SliderKind) (n : ℕ) (a b c d : TreeId) → node ≡ nodes.Slider k n a b c d → ⊥) → parameters_of (tree_of ts node start) ≡ []
no_slider ts (nodes.Slider k n a b c d) start h = absurd (h k n a b c d refl)
no_slider ts (nodes.List ids) start h = other ids.items
  where
    other : (is : List TreeId) → parameters_of (forest ts is End) ≡ []
    other [] = refl
    other (i ∷ is) = refl
no_slider ts node start h = refl

pub no_definition : (ts : List Tree) (node : TreeNode) (start : ℕ) → ((n : ℕ) (x : TreeId) → node ≡ nodes.Constant n x → ⊥)
    → ((n : ℕ) (ps x : TreeId) → node ≡ nodes.Function n ps x → ⊥) → defined_by (tree_of ts node start) ≡ None
no_definition ts (nodes.Constant n x) start a b = absurd (a n x refl)
no_definition ts (nodes.Function n ps x) start a b = absurd (b n ps x refl)
no_definition ts (nodes.List ids) start a b = other ids.items
  where
    other : (is : List TreeId) → defined_by (forest ts is End) ≡ None
    other [] = refl
    other (i ∷ is) = refl
no_definition ts node start a b = refl
