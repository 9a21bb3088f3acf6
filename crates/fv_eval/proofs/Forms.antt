-- The forms of nodes, by the trees that they stand for.
use Rattle.std.proofs.Common.{◌≡◌, ◌≤◌, ℕ, zero, suc, None, List, [], ◌∷◌, refl, sym, subst, arith}
use Rattle.std.specs.Prelude.{slice_get}
use Rattle.std.proofs.lemmas.Option.{none-some}
use Rattle.fv_parse_grammar.specs.headline.Tree.{Tree, End}
use Rattle.fv_parse_grammar.specs.headline.Tree as tree
use Rattle.fv_parse_grammar.specs.declared.form.Operator.{Operator}
use Rattle.fv_parse_grammar.specs.Iteration.{Iteration as Repetition}
use Rattle.fv_parse_grammar.specs.Slider.{Slider as SliderKind}
use Rattle.fv_parse.specs.TreeId.{TreeId}
use Rattle.fv_parse.specs.TreeNode.{TreeNode}
use Rattle.fv_parse.specs.TreeNode.TheVariants as nodes
use Rattle.fv_parse.specs.Arena.{forest, tree_of}
use Rattle.fv_parse.specs.Trees.{Parsed, node_tree, tree_in}
use Rattle.fv_eval.specs.inner.Continuations.{IsApplication, IsBinary, IsIteration, IsSlider, parameters_of}

-- ---- a tree that is spelled so has its form

pub is_binary : {t : Tree} {s : ℕ} {o : Operator} {x y : Tree} → t ≡ tree.Binary s o x y → IsBinary t
is_binary e = subst IsBinary (sym e) tt

pub is_iteration : {t : Tree} {s : ℕ} {r : Repetition} {n : ℕ} {c b : Tree} → t ≡ tree.Iteration s r n c b → IsIteration t
is_iteration e = subst IsIteration (sym e) tt

pub is_application : {t : Tree} {s : ℕ} {f ys : Tree} → t ≡ tree.Apply s f ys → IsApplication t
is_application e = subst IsApplication (sym e) tt

pub is_slider : {t : Tree} {s : ℕ} {k : SliderKind} {n : ℕ} {x0 x1 x2 x3 : Tree} → t ≡ tree.Slider s k n x0 x1 x2 x3 → IsSlider t
is_slider e = subst IsSlider (sym e) tt

-- ---- and no node of another form stands for it

binary_node : (ts : List Tree) (node : TreeNode) (start : ℕ)
    → ((o : Operator) (x y : TreeId) → node ≡ nodes.Binary o x y → ⊥) → IsBinary (tree_of ts node start) → ⊥
binary_node ts (nodes.Binary o x y) start other h = other o x y refl
binary_node ts (nodes.List ids) start other h = list ids.items h
  where
    list : (is : List TreeId) → IsBinary (forest ts is End) → ⊥
    list [] h = h
    list (i ∷ is) h = h
binary_node ts node start other h = h

iteration_node : (ts : List Tree) (node : TreeNode) (start : ℕ)
    → ((r : Repetition) (n : ℕ) (x y : TreeId) → node ≡ nodes.Iteration r n x y → ⊥) → IsIteration (tree_of ts node start) → ⊥
iteration_node ts (nodes.Iteration r n x y) start other h = other r n x y refl
iteration_node ts (nodes.List ids) start other h = list ids.items h
  where
    list : (is : List TreeId) → IsIteration (forest ts is End) → ⊥
    list [] h = h
    list (i ∷ is) h = h
iteration_node ts node start other h = h

application_node : (ts : List Tree) (node : TreeNode) (start : ℕ)
    → ((x ys : TreeId) → node ≡ nodes.Apply x ys → ⊥) → IsApplication (tree_of ts node start) → ⊥
application_node ts (nodes.Apply x ys) start other h = other x ys refl
application_node ts (nodes.List ids) start other h = list ids.items h
  where
    list : (is : List TreeId) → IsApplication (forest ts is End) → ⊥
    list [] h = h
    list (i ∷ is) h = h
application_node ts node start other h = h

slider_node : (ts : List Tree) (node : TreeNode) (start : ℕ)
    → ((k : SliderKind) (n : ℕ) (a b c d : TreeId) → node ≡ nodes.Slider k n a b c d → ⊥) → IsSlider (tree_of ts node start) → ⊥
slider_node ts (nodes.Slider k n a b c d) start other h = other k n a b c d refl
slider_node ts (nodes.List ids) start other h = list ids.items h
  where
    list : (is : List TreeId) → IsSlider (forest ts is End) → ⊥
    list [] h = h
    list (i ∷ is) h = h
slider_node ts node start other h = h

-- the form of a node of a tree that is lent
node_form : (P : Tree → Type 0) (p q : Parsed) (a : ℕ) (node : TreeNode) (start : ℕ)
    → q ≡ p → tree_in q a ≡ node_tree q node start → P (tree_in p a) → P (node_tree q node start)
node_form P p q a node start lent is h = subst P is (subst (λ (x : Parsed). P (tree_in x a)) (sym lent) h)

pub is_no_other_binary : (p q : Parsed) (a : ℕ) (node : TreeNode) (start : ℕ) → q ≡ p → tree_in q a ≡ node_tree q node start
    → IsBinary (tree_in p a) → ((o : Operator) (x y : TreeId) → node ≡ nodes.Binary o x y → ⊥) → ⊥
is_no_other_binary p q a node start lent is h other = binary_node _ node start other (node_form IsBinary p q a node start lent is h)

pub is_no_other_iteration : (p q : Parsed) (a : ℕ) (node : TreeNode) (start : ℕ) → q ≡ p → tree_in q a ≡ node_tree q node start
    → IsIteration (tree_in p a) → ((r : Repetition) (n : ℕ) (x y : TreeId) → node ≡ nodes.Iteration r n x y → ⊥) → ⊥
is_no_other_iteration p q a node start lent is h other = iteration_node _ node start other (node_form IsIteration p q a node start lent is h)

pub is_no_other_application : (p q : Parsed) (a : ℕ) (node : TreeNode) (start : ℕ) → q ≡ p → tree_in q a ≡ node_tree q node start
    → IsApplication (tree_in p a) → ((x ys : TreeId) → node ≡ nodes.Apply x ys → ⊥) → ⊥
is_no_other_application p q a node start lent is h other = application_node _ node start other (node_form IsApplication p q a node start lent is h)

pub is_no_other_slider : (p q : Parsed) (a : ℕ) (node : TreeNode) (start : ℕ) → q ≡ p → tree_in q a ≡ node_tree q node start
    → IsSlider (tree_in p a) → ((k : SliderKind) (n : ℕ) (a b c d : TreeId) → node ≡ nodes.Slider k n a b c d → ⊥) → ⊥
is_no_other_slider p q a node start lent is h other = slider_node _ node start other (node_form IsSlider p q a node start lent is h)

-- ---- a slider has four parameters

-- where there is no parameter, four are done
pub slider_is_done : (t : Tree) (n : ℕ) → IsSlider t → None ≡ slice_get (parameters_of t) n → 4 ≤ n
slider_is_done (tree.Slider s k l a b c d) zero h none = absurd (none-some a none)
slider_is_done (tree.Slider s k l a b c d) (suc zero) h none = absurd (none-some b none)
slider_is_done (tree.Slider s k l a b c d) (suc (suc zero)) h none = absurd (none-some c none)
slider_is_done (tree.Slider s k l a b c d) (suc (suc (suc zero))) h none = absurd (none-some d none)
slider_is_done (tree.Slider s k l a b c d) (suc (suc (suc (suc n)))) h none = omega arith
slider_is_done t n h none = absurd h
