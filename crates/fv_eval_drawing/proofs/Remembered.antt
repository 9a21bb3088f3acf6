-- Arenas that nodes were put into: the diagrams stay composed, and what is remembered of them stays true.
use Rattle.std.proofs.Common.{◌≡◌, ℕ, ◌<◌, ◌++◌, List, [], ◌∷◌, length, Result, Ok, Err, refl, sym, ap, ap₂, subst, ◌∙◌, arith, below_more, append_assoc, ℤ}
use Rattle.std.proofs.Common.{append-nil}
use Rattle.std.specs.Prelude.{All, get_or, IfOk, OnOk, OnErr}
use Rattle.std.proofs.lemmas.List.{length_push}
use Rattle.std.proofs.lemmas.List.Elements.{All-head, All-tail}
use Rattle.fv_diagram.specs.declared.node.Node.{Node}
use Rattle.fv_diagram.specs.declared.node.Node.TheVariants as node
use Rattle.fv_diagram.specs.headline.Diagram.{Diagram}
use Rattle.fv_diagram.specs.Composed.{IsComposed}
use Rattle.fv_diagram.specs.Arena.{Arena, ChildrenBelow, count_of, tree_of, tree_with, with_list, with_node}
use Rattle.fv_diagram.proofs.lemmas.Trees.{put_tree, put_tree_keeps}
use Rattle.fv_rules.specs.Compositions.{HasComposedParts}
use Rattle.fv_rules.specs.declared.refusal.EvalRefusal.{EvalRefusal}
use Rattle.fv_eval_scopes.specs.declared.memo.Known.{Known}
use Rattle.fv_eval_scopes.specs.declared.memo.Known.TheVariants as known
use Rattle.fv_eval_scopes.specs.declared.value.Value as code_value
use Rattle.fv_eval_scopes.specs.declared.value.Value.TheVariants as value
use Rattle.fv_diagram_numbers.specs.headline.Numbers.{number_of}
use Rattle.fv_eval_scopes.specs.Memo.{AddsIntegers, IsInteger, IsKnown, Remembers}
use Rattle.fv_eval_patterns.specs.Patterns.{IsValid}
use Rattle.fv_eval_scopes.proofs.lemmas.Added.{adds_keeps, adds_longer}
use Rattle.fv_eval_drawing.specs.Makes.{AreComposed, Canvas, Draws, Extends, IsThere}
use Rattle.fv_eval_drawing.specs.Wires.{AreWires}
use Rattle.fv_eval_drawing.proofs.Wired.{still_inside, still_wires}

-- ---- what is remembered

known_stays : (a b : Canvas) (i : ℕ) (k : Known) → Extends a b → IsKnown a.diagrams i k → IsKnown b.diagrams i k
known_stays a b i known.Unasked g h = h
known_stays a b i known.Without g h = let l = g.longer in (omega (arith, h.0, l), ap number_of (g.trees i h.0) ∙ h.1)
known_stays a b i (known.Number n) g h = let l = g.longer in (omega (arith, h.0, l), ap number_of (g.trees i h.0) ∙ h.1)

pub still_remembers : (a b : Canvas) (ks : List Known) → Extends a b → Remembers a.diagrams ks → Remembers b.diagrams ks
still_remembers a b ks g h i k e = known_stays a b i k g (h i k e)

-- ---- one node more

parts_composed : (a : Arena) (n : Node) → AreComposed a → ChildrenBelow (count_of a) n → HasComposedParts (tree_with a n)
parts_composed a (node.Prim p) h c = tt
parts_composed a (node.Number n) h c = tt
parts_composed a (node.Control k) h c = tt
parts_composed a (node.Slot s) h c = tt
parts_composed a (node.Wave t) h c = tt
parts_composed a (node.Table t writes) h c = tt
parts_composed a (node.Bind s x) h c = h x c
parts_composed a (node.Par x y) h c = (h x c.0, h y c.1)
parts_composed a (node.Seq x y) h c = (h x c.0, h y c.1)
parts_composed a (node.Split x y) h c = (h x c.0, h y c.1)
parts_composed a (node.Merge x y) h c = (h x c.0, h y c.1)
parts_composed a (node.Rec x y) h c = (h x c.0, h y c.1)

one_more : (a : Arena) (n : Node) → AreComposed a → IsComposed (tree_with a n) → AreComposed (with_node a n)
one_more a n h k i l =
    let b : Arena = with_node a n in
    let e = length_push a.nodes n in
    below_more (λ j. IsComposed (tree_of b j)) (count_of a) (λ j q. subst IsComposed (sym (put_tree_keeps a b n j refl q)) (h j q))
    (subst IsComposed (sym (put_tree a b n (count_of a) refl refl)) k) i (omega (arith, l, e))

-- a node was put, or nothing has changed
pub put_composed : (a b : Arena) (n : Node) (r : Result ℕ EvalRefusal) → AreComposed a → ChildrenBelow (count_of a) n
    → IfOk r (λ i. (i ≡ count_of a) × (b ≡ with_node a n))
    → OnOk r (HasComposedParts (tree_with a n) → IsComposed (tree_with a n)) → OnErr r (b ≡ a) → AreComposed b
put_composed a b n (Ok i) h c added composed err = subst AreComposed (sym added.1) (one_more a n h (composed (parts_composed a n h c)))
put_composed a b n (Err e) h c added composed err = subst AreComposed (sym err) h

pub put_extends : (a b : Canvas) (n : Node) (r : Result ℕ EvalRefusal)
    → IfOk r (λ i. (i ≡ count_of a.diagrams) × (b.diagrams ≡ with_node a.diagrams n)) → OnErr r (b.diagrams ≡ a.diagrams)
    → ((i : ℕ) → i < count_of a.diagrams → tree_of b.diagrams i ≡ tree_of a.diagrams i) → Extends a b
put_extends a b n (Ok i) added err keeps =
    let e = length_push a.diagrams.nodes n in record { longer = omega (arith, e, ap count_of added.1); trees = keeps }
put_extends a b n (Err e) added err keeps = record { longer = omega (arith, ap count_of err); trees = keeps }

-- ---- a list more

list_extends : {E : Type 0} (a b : Canvas) (values : List ℤ) (r : Result ℕ E)
    → IfOk r (λ t. (t ≡ length a.diagrams.lists) × (b.diagrams ≡ with_list a.diagrams values)) → OnErr r (b.diagrams ≡ a.diagrams)
    → ((i : ℕ) → i < count_of a.diagrams → tree_of b.diagrams i ≡ tree_of a.diagrams i) → Extends a b
list_extends a b values (Ok t) added err keeps = record { longer = omega (arith, ap count_of added.1); trees = keeps }
list_extends a b values (Err e) added err keeps = record { longer = omega (arith, ap count_of err); trees = keeps }

same_count : {E : Type 0} (a b : Arena) (values : List ℤ) (r : Result ℕ E)
    → IfOk r (λ t. (t ≡ length a.lists) × (b ≡ with_list a values)) → OnErr r (b ≡ a) → count_of b ≡ count_of a
same_count a b values (Ok t) added err = ap count_of added.1
same_count a b values (Err e) added err = ap count_of err

-- the diagrams stay composed, and what is remembered of them stays true
pub list_keeps : {E : Type 0} (a b : Canvas) (ks : List Known) (ws rs : List ℕ) (values : List ℤ) (r : Result ℕ E)
    → IfOk r (λ t. (t ≡ length a.diagrams.lists) × (b.diagrams ≡ with_list a.diagrams values)) → OnErr r (b.diagrams ≡ a.diagrams)
    → ((i : ℕ) → i < count_of a.diagrams → tree_of b.diagrams i ≡ tree_of a.diagrams i)
    → AreComposed a.diagrams × Remembers a.diagrams ks × AreWires a.diagrams ws × All (λ i. i < count_of a.diagrams) rs
    → AreComposed b.diagrams × Remembers b.diagrams ks × AreWires b.diagrams ws × All (λ i. i < count_of b.diagrams) rs
list_keeps a b ks ws rs values r added err keeps h =
    let e = same_count a.diagrams b.diagrams values r added err in
    let g = list_extends a b values r added err keeps in (
      λ i l. let k : i < count_of a.diagrams = omega (arith, e, l) in subst IsComposed (sym (keeps i k)) (h.0 i k),
      still_remembers a b ks g h.1,
      still_wires a b ws g h.2,
      still_inside a b rs g h.3,
    )

-- ---- integers more

pub adds_extends : (a b : Canvas) → AddsIntegers a.diagrams b.diagrams → Extends a b
adds_extends a b g = record { longer = adds_longer a.diagrams b.diagrams g; trees = adds_keeps a.diagrams b.diagrams g }

integer_composed : (a : Arena) (n : Node) → IsInteger n → IsComposed (tree_with a n)
integer_composed a (node.Number n) h = tt
integer_composed a n h = absurd h

abbrev of_nodes : List (List ℤ) → List Node → Arena
of_nodes lists ns = record { nodes = ns; lists = lists }

more_composed : (a : Arena) (more : List Node) → AreComposed a → All IsInteger more → AreComposed (of_nodes a.lists (a.nodes ++ more))
more_composed a [] h k = subst AreComposed (sym (ap (of_nodes a.lists) (append-nil a.nodes))) h
more_composed a (n ∷ more) h k =
    subst AreComposed (ap (of_nodes a.lists) (append_assoc a.nodes (n ∷ []) more))
    (more_composed (with_node a n) more (one_more a n h (integer_composed a n (All-head IsInteger n more k))) (All-tail IsInteger n more k))

pub adds_composed : (a b : Arena) → AddsIntegers a b → AreComposed a → AreComposed b
adds_composed a b g h = subst AreComposed (sym (ap₂ of_nodes g.lists g.nodes)) (more_composed a g.more h g.integers)

-- ---- a settled diagram, and values that are there

pub settled_draws : {E : Type 0} (a : Arena) (d : Diagram) (r : Result ℕ E)
    → IfOk r (λ i. i < count_of a) → IfOk r (λ i. tree_of a i ≡ d) → IfOk r (λ i. Draws a i d)
settled_draws a d (Ok i) h k = record { inside = h; is = k }
settled_draws a d (Err e) h k = tt

one_valid : (a : Arena) (u : code_value.Value) → AreComposed a → IsThere a u → IsValid a u
one_valid a (value.Diagram i) h k = (k, h i k)
one_valid a u h k = tt

pub there_valid : (a : Arena) (us : List code_value.Value) → AreComposed a → All (IsThere a) us → All (IsValid a) us
there_valid a us h k i u l = one_valid a (get_or us i u) h (k i u l)
