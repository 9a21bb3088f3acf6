-- The steps of matching.
use Rattle.std.proofs.Common.{◌≡◌, ℕ, ◌+◌, ◌<◌, ◌≤◌, arith, Bool, true, false, cond, List, [], ◌∷◌, ◌++◌, length, map, reverse, get_or, Option, Some}
use Rattle.std.proofs.Common.{None, refl, sym, ap, ap₂, subst, ◌∙◌, All, ℤ, append_assoc, append-nil}
use Rattle.std.specs.Prelude.{IfSome, option_to_list}
use Rattle.std.specs.List.{sum_by}
use Rattle.std.proofs.lemmas.List.{reverse-append, map-append, get_or_append_left, get_or_push, length_push}
use Rattle.std.proofs.lemmas.List.Elements.{All-nil, All-cons, All-append, All-tail}
use Rattle.std.proofs.lemmas.List.Sorted.{All-permutation, IsPermutation-reverse}
use Rattle.std.proofs.lemmas.List.Sums.{sum_by-append, sum_by_push}
use Rattle.fv_parse.specs.Arena.{forest, trees, tree_of as node_in}
use Rattle.fv_parse.specs.TreeId.{TreeId}
use Rattle.fv_parse.specs.TreeNode.{TreeNode}
use Rattle.fv_parse.specs.TreeNode.TheVariants as nodes
use Rattle.fv_parse.specs.Token.{Lexed}
use Rattle.fv_parse_grammar.specs.headline.Tree.{Tree}
use Rattle.fv_parse_grammar.specs.headline.Tree as tree
use Rattle.fv_parse_grammar.specs.declared.form.Operator.{Operator}
use Rattle.fv_diagram.specs.declared.node.Node.{Node}
use Rattle.fv_diagram.specs.declared.node.DiagramId.{DiagramId}
use Rattle.fv_diagram.specs.headline.Diagram.{Diagram, size}
use Rattle.fv_diagram.specs.Composed.{IsComposed}
use Rattle.fv_diagram.specs.Arena.{Arena, count_of, tree_of, tree_with, ChildrenBelow}
use Rattle.fv_parse.specs.headline.Trees.{text_of}
use Rattle.fv_parse.specs.Trees.{Parsed, size_of, tree_in, start_in}
use Rattle.fv_eval_scopes.specs.declared.value.Value as code_value
use Rattle.fv_eval_scopes.specs.declared.value.Value.TheVariants as value
use Rattle.fv_eval_scopes.specs.declared.value.Binding as code_binding
use Rattle.fv_eval_patterns.specs.declared.value_patterns.Pair.{Pair}
use Rattle.fv_eval_scopes.specs.declared.memo.Known.{Known}
use Rattle.fv_rules.specs.headline.Values.{Value, Flat, Abstraction, Rules}
use Rattle.fv_rules.specs.Numbers.{number_of}
use Rattle.fv_rules.specs.headline.Matching.{Bindings, and_then, number_or, is_number, parts_without, matched}
use Rattle.std.specs.Bool.{MatchBool}
use Rattle.std.proofs.lemmas.Option.{none-some, same_Some}
use Rattle.std.proofs.lemmas.Bool.{false≢true}
use Rattle.fv_diagram.specs.declared.node.Node.TheVariants as node
use Rattle.fv_eval_scopes.specs.Shows.{World, Grows, ShowsValue, ShowsBindings}
use Rattle.fv_eval_scopes.specs.Memo.{Remembers, AddsIntegers}
use Rattle.fv_eval_patterns.specs.Patterns.{with_diagrams, ShowsMatched, ShowsMatch, matched_on, pair_of, waiting, IsPair, BindsName, Refuses, Leaves}
use Rattle.fv_eval_patterns.specs.Patterns.{are_parts, both_parts, IsNoDiagram, ArePartsOf, GoesOn}
use Rattle.fv_diagram.proofs.lemmas.Turns.{some_size}
use Rattle.fv_eval_scopes.proofs.lemmas.Grown.{diagrams_come, bindings_grow}
use Rattle.fv_eval_scopes.proofs.lemmas.Added.{adds_none, adds_on, adds_keeps, adds_longer}

pub adds_grow : (w : World) (a b : Arena) → w.diagrams ≡ a → AddsIntegers a b → Grows w (with_diagrams w b)
adds_grow w a b e g =
    diagrams_come w b (subst (λ c. count_of c ≤ count_of b) (sym e) (adds_longer a b g))
    (subst (λ c. (i : ℕ) → i < count_of c → tree_of b i ≡ tree_of c i) (sym e) (adds_keeps a b g))

-- the tree of a node that was matched
pub node_is : (p : Parsed) (i : ℕ) {n m : TreeNode} {t : Tree} → t ≡ node_in (trees p.entries) n (start_in p i) → n ≡ m
    → t ≡ node_in (trees p.entries) m (start_in p i)
node_is p i e same = e ∙ ap (λ node. node_in (trees p.entries) node (start_in p i)) same

-- ---- one pattern on one diagram

and_then_on : {A B C : Type 0} (o : Option A) (f : A → Option B) (g : B → Option C) → and_then (and_then o f) g ≡ and_then o (λ x. and_then (f x) g)
and_then_on None f g = refl
and_then_on (Some x) f g = refl

-- a pair of a larger arena is the pair that it was
pub pair_stays : (p : Parsed) (a b : Arena) (x : Pair) → AddsIntegers a b → IsPair p a x → IsPair p b x
pair_stays p a b x g h =
    let l = adds_longer a b g in
    record { pattern = h.pattern; diagram = omega (arith, h.diagram, l); composed = subst IsComposed (sym (adds_keeps a b g x.diagram h.diagram)) h.composed }

-- a binding that was added shows the name with the value
pub bound_shows_more : (w : World) (n : ℕ) (u : code_value.Value) (v : Value) (before after : List code_binding.Binding) (bs : Bindings)
    → BindsName w.tree n u before after → ShowsValue w u v → ShowsBindings w before bs → ShowsBindings w after ((text_of w.tree.tokens n, v) ∷ bs)
bound_shows_more w n u v before after bs h shown old =
    (before, record { name = h.name; value = u }, h.pushed, (h.text, h.canonical), shown, old)

-- the pattern is a name, which was bound to the number of the diagram, or else to the diagram
pub record BindsDiagram (p : Parsed) (a b : Arena) (x : Pair) (start n i : ℕ) (before after : List code_binding.Binding) : Type 0 where
  pub is : tree_in p x.pattern ≡ tree.Named start n
  pub adds : AddsIntegers a b
  pub there : i < count_of b
  pub settled : tree_of b i ≡ number_or (number_of (tree_of a x.diagram)) (tree_of a x.diagram)
  pub bound : BindsName p n (value.Diagram i) before after

-- a name: it is bound, and nothing waits
pub name_leaves : {p : Parsed} {a b : Arena} {x : Pair} {start n i : ℕ} {before after : List code_binding.Binding} (waits : List Pair)
    → BindsDiagram p a b x start n i before after → Leaves p a b x waits waits before after
name_leaves {p} {a} {b} {x} {n = n} {i = i} {before = before} {after = after} waits binds = record {
  more = [];
  pushed = sym (append-nil waits);
  there = All-nil (IsPair p a);
  below = All-nil (λ (y : Pair). y.diagram < x.diagram);
  smaller = some_size (tree_of a x.diagram);
  meant = λ w bs e f h.
      let v : World = with_diagrams w b in
      let d = tree_of a x.diagram in
      let settled = Flat (number_or (number_of d) d) in
      let bound = subst (λ (q : Parsed). BindsName q n (value.Diagram i) before after) (sym e) binds.bound in (
        (text_of w.tree.tokens n, settled) ∷ bs,
        bound_shows_more v n (value.Diagram i) settled before after bs bound (binds.there, binds.settled)
            (bindings_grow w v (adds_grow w a b f binds.adds) before bs h),
        λ rest.
            ap (λ z. matched_on p.tokens ((z, d) ∷ rest) bs) binds.is
            ∙ ap (λ (q : Parsed). matched_on p.tokens rest ((text_of q.tokens n, settled) ∷ bs)) (sym e),
      );
}

-- the pattern is this number
abbrev pub IsNumber : Parsed → Pair → ℤ → Type 0
IsNumber p x k =
    (bs : Bindings) (d : Diagram) → matched p.tokens (tree_in p x.pattern) (Flat d) bs ≡ cond (is_number k (number_of d)) (Some bs) None

-- a number: it is the diagram's, and nothing is bound and nothing waits
pub number_leaves : (p : Parsed) (a : Arena) (x : Pair) (waits : List Pair) (before : List code_binding.Binding) (k : ℤ) → IsNumber p x k
    → is_number k (number_of (tree_of a x.diagram)) ≡ true → Leaves p a a x waits waits before before
number_leaves p a x waits before k is passes = record {
  more = [];
  pushed = sym (append-nil waits);
  there = All-nil (IsPair p a);
  below = All-nil (λ (y : Pair). y.diagram < x.diagram);
  smaller = some_size (tree_of a x.diagram);
  meant = λ w bs e f h.
      let d = tree_of a x.diagram in (
        bs,
        subst (λ c. ShowsBindings (with_diagrams w c) before bs) f h,
        λ rest. ap (λ o. and_then o (matched_on p.tokens rest)) (is bs d ∙ ap (λ c. cond c (Some bs) None) passes),
      );
}

pub number_refuses : (p : Parsed) (a : Arena) (x : Pair) (k : ℤ) → IsNumber p x k → is_number k (number_of (tree_of a x.diagram)) ≡ false
    → Refuses p a x
number_refuses p a x k is fails rest bs =
    let d = tree_of a x.diagram in ap (λ o. and_then o (matched_on p.tokens rest)) (is bs d ∙ ap (λ c. cond c (Some bs) None) fails)

-- the pattern is a composition of two others
pub record IsPaired (p : Parsed) (x : Pair) (o : Operator) (l r : ℕ) : Type 0 where
  pub start : ℕ
  pub is : tree_in p x.pattern ≡ tree.Binary start o (tree_in p l) (tree_in p r)

-- both parts of a pattern against both parts of a diagram
abbrev both_matched : Parsed → (l r : ℕ) → Bindings → Diagram × Diagram → Option Bindings
both_matched p l r bs ab = and_then (matched p.tokens (tree_in p l) (Flat ab.0) bs) (λ cs. matched p.tokens (tree_in p r) (Flat ab.1) cs)

-- what a composition answers with the parts of the diagram
pub by_parts : (p : Parsed) (a : Arena) (x : Pair) (o : Operator) (l r : ℕ) (parts : Option (Diagram × Diagram)) → IsPaired p x o l r
    → parts_without (number_of (tree_of a x.diagram)) o (tree_of a x.diagram) ≡ parts → (rest : List (Tree × Diagram)) (bs : Bindings)
    → matched_on p.tokens (pair_of p a x ∷ rest) bs ≡ and_then (and_then parts (both_matched p l r bs)) (matched_on p.tokens rest)
by_parts p a x o l r parts composed is rest bs =
    ap (λ t. matched_on p.tokens ((t, tree_of a x.diagram) ∷ rest) bs) composed.is
    ∙ ap (λ q. and_then (and_then q (both_matched p l r bs)) (matched_on p.tokens rest)) is

-- the diagram has two parts, and both wait with the parts of the pattern, the left one next
pub record BothWait (p : Parsed) (a : Arena) (x : Pair) (o : Operator) (l r : ℕ) (ij : DiagramId × DiagramId) (waits now : List Pair) : Type 0 where
  pub left : l < size_of p
  pub right : r < size_of p
  pub there : x.diagram < count_of a
  pub parts : ArePartsOf a x.diagram ij
  pub composed : parts_without (number_of (tree_of a x.diagram)) o (tree_of a x.diagram) ≡ Some (are_parts a ij)
  pub pushed : now ≡ (waits ++ record { pattern = r; diagram = ij.1 } ∷ []) ++ record { pattern = l; diagram = ij.0 } ∷ []

-- a composition: both parts wait
pub parts_leave : {p : Parsed} {a : Arena} {x : Pair} {waits now : List Pair} {o : Operator} {l r : ℕ} {ij : DiagramId × DiagramId}
    (before : List code_binding.Binding) → IsPaired p x o l r → BothWait p a x o l r ij waits now → Leaves p a a x waits now before before
parts_leave {p} {a} {x} {waits = waits} {o = o} {l = l} {r = r} {ij = ij} before is both = record {
  more = right ∷ left ∷ [];
  pushed = both.pushed ∙ append_assoc waits (right ∷ []) (left ∷ []);
  there = two (IsPair p a) (record { pattern = both.right; diagram = omega (arith, below.right, there); composed = below.right_composed })
      (record { pattern = both.left; diagram = omega (arith, below.left, there); composed = below.left_composed });
  below = two (λ (y : Pair). y.diagram < x.diagram) below.right below.left;
  smaller = let z = below.sizes in omega (arith, z);
  meant = λ w bs e f h. (
    bs,
    subst (λ c. ShowsBindings (with_diagrams w c) before bs) f h,
    λ rest.
        by_parts p a x o l r (Some (are_parts a ij)) is both.composed rest bs
        ∙ and_then_on (matched p.tokens (tree_in p l) (Flat (tree_of a ij.0)) bs) (λ cs. matched p.tokens (tree_in p r) (Flat (tree_of a ij.1)) cs)
        (matched_on p.tokens rest),
  );
}
  where
    below : ArePartsOf a x.diagram ij
    below = both.parts

    there : x.diagram < count_of a
    there = both.there

    left : Pair
    left = record { pattern = l; diagram = ij.0 }

    right : Pair
    right = record { pattern = r; diagram = ij.1 }

    two : (P : Pair → Type 0) → P right → P left → All P (right ∷ left ∷ [])
    two P g h = All-cons P right (left ∷ []) g (All-cons P left [] h (All-nil P))

-- what a pattern that is a number answers
pub number_answers : (p : Parsed) (a : Arena) (x : Pair) (waits : List Pair) (before : List code_binding.Binding) (k : ℤ) (b : Bool)
    → IsNumber p x k → b ≡ is_number k (number_of (tree_of a x.diagram)) → MatchBool b (Leaves p a a x waits waits before before) (Refuses p a x)
number_answers p a x waits before k true is e = number_leaves p a x waits before k is (sym e)
number_answers p a x waits before k false is e = number_refuses p a x k is (sym e)

-- the parts of a node, where it is a composition
pub are_parts_of : (a : Arena) (id : ℕ) (n : Node) (ij : DiagramId × DiagramId) → tree_of a id ≡ tree_with a n → ChildrenBelow id n
    → IsComposed (tree_of a id) → both_parts n ≡ Some ij → ArePartsOf a id ij
are_parts_of a id n ij is below composed e = go n e below (subst IsComposed is composed) (ap size is)
  where
    parts : {i j : ℕ} → Some (i, j) ≡ Some ij → (i < id) × (j < id) → IsComposed (tree_of a i) → IsComposed (tree_of a j)
        → size (tree_of a id) ≡ 1 + size (tree_of a i) + size (tree_of a j) → ArePartsOf a id ij
    parts e c u v s =
        subst (ArePartsOf a id) (same_Some _ _ e) (record { left = c.0; right = c.1; left_composed = u; right_composed = v; sizes = omega (arith, s) })

    go : (n : Node) → both_parts n ≡ Some ij → ChildrenBelow id n → IsComposed (tree_with a n) → size (tree_of a id) ≡ size (tree_with a n)
        → ArePartsOf a id ij
    go (node.Par i j) e c h s = parts e c h.0 h.1 s
    go (node.Seq i j) e c h s = parts e c h.0 h.1 s
    go (node.Split i j) e c h s = parts e c h.0 h.1 s
    go (node.Merge i j) e c h s = parts e c h.0 h.1 s
    go (node.Rec i j) e c h s = parts e c h.0 h.1 s
    go n e c h s = absurd (none-some ij e)

pub all_parts_of : (a : Arena) (id : ℕ) (n : Node) (o : Option (DiagramId × DiagramId)) → tree_of a id ≡ tree_with a n → ChildrenBelow id n
    → IsComposed (tree_of a id) → IfSome o (λ ij. both_parts n ≡ Some ij) → IfSome o (ArePartsOf a id)
all_parts_of a id n None is below composed h = h
all_parts_of a id n (Some ij) is below composed h = are_parts_of a id n ij is below composed h

-- the node is no name
abbrev pub IsNoName : TreeNode → Type 0
IsNoName node = (n : ℕ) → node ≡ nodes.Named n → ⊥

-- the value is no diagram
abbrev IsNoFlat : Value → Type 0
IsNoFlat (Flat d) = ⊥
IsNoFlat v = Unit {0}

shows_no_flat : (w : World) (u : code_value.Value) (v : Value) → IsNoDiagram u → ShowsValue w u v → IsNoFlat v
shows_no_flat w (value.Diagram i) v other h = absurd other
shows_no_flat w (value.Abstraction f n e) (Flat d) other h = absurd h
shows_no_flat w (value.Rules r e n i) (Flat d) other h = absurd h
shows_no_flat w u (Abstraction x xs b E) other h = tt
shows_no_flat w u (Rules s rs E T) other h = tt

no_name_refuses : (l : Lexed) (ts : List Tree) (node : TreeNode) (start : ℕ) (v : Value) (bs : Bindings) → IsNoName node → IsNoFlat v
    → matched l (node_in ts node start) v bs ≡ None
no_name_refuses l ts (nodes.Named n) start v bs a other = absurd (a n refl)
no_name_refuses l ts (nodes.List ids) start v bs a other = none ids.items
  where
    none : (is : List TreeId) → matched l (forest ts is tree.End) v bs ≡ None
    none [] = refl
    none (i ∷ is) = refl
no_name_refuses l ts node start (Flat d) bs a other = absurd other
no_name_refuses l ts node start v bs a other = refl

-- a pattern on a value that is no diagram
pub whole_refuses : (l : Lexed) (ts : List Tree) (node : TreeNode) (start : ℕ) (w : World) (u : code_value.Value) (v : Value) (bs : Bindings)
    → IsNoName node → IsNoDiagram u → ShowsValue w u v → matched l (node_in ts node start) v bs ≡ None
whole_refuses l ts node start w u v bs a other h = no_name_refuses l ts node start v bs a (shows_no_flat w u v other h)

-- the node is none of those that match a diagram
pub record MatchesNothing (node : TreeNode) : Type 0 where
  pub name : IsNoName node
  pub number : (n : ℕ) → node ≡ nodes.Number n → ⊥
  pub negative : (n : ℕ) → node ≡ nodes.Negative n → ⊥
  pub composition : (o : Operator) (x y : TreeId) → node ≡ nodes.Binary o x y → ⊥

-- another pattern matches nothing
pub other_pattern : (l : Lexed) (ts : List Tree) (node : TreeNode) (start : ℕ) (v : Value) (bs : Bindings) → MatchesNothing node
    → matched l (node_in ts node start) v bs ≡ None
other_pattern l ts (nodes.Named n) start v bs not = absurd (not.name n refl)
other_pattern l ts (nodes.Number n) start v bs not = absurd (not.number n refl)
other_pattern l ts (nodes.Negative n) start v bs not = absurd (not.negative n refl)
other_pattern l ts (nodes.Binary o x y) start v bs not = absurd (not.composition o x y refl)
other_pattern l ts (nodes.List ids) start v bs not = none ids.items
  where
    none : (is : List TreeId) → matched l (forest ts is tree.End) v bs ≡ None
    none [] = refl
    none (i ∷ is) = refl
other_pattern l ts node start v bs not = refl

pub other_refuses : (p : Parsed) (a : Arena) (x : Pair) → ((v : Value) (bs : Bindings) → matched p.tokens (tree_in p x.pattern) v bs ≡ None)
    → Refuses p a x
other_refuses p a x none rest bs = ap (λ o. and_then o (matched_on p.tokens rest)) (none (Flat (tree_of a x.diagram)) bs)

-- ---- the loop

waiting_next : (p : Parsed) (a : Arena) (rest : List Pair) (x : Pair) → waiting p a (rest ++ x ∷ []) ≡ pair_of p a x ∷ waiting p a rest
waiting_next p a rest x = ap (map (pair_of p a)) (reverse-append rest (x ∷ []))

waiting_more : (p : Parsed) (a : Arena) (rest more : List Pair) → waiting p a (rest ++ more) ≡ waiting p a more ++ waiting p a rest
waiting_more p a rest more = ap (map (pair_of p a)) (reverse-append rest more) ∙ map-append (pair_of p a) (reverse more) (reverse rest)

pub and_then_some : {A : Type 0} (o : Option A) → and_then o Some ≡ o
and_then_some None = refl
and_then_some (Some x) = refl

pub loop_begins : (p : Parsed) (a : Arena) (ks : List Known) (x : Pair) (pending : List Pair) (before : List code_binding.Binding) → Remembers a ks
    → IsPair p a x → pending ≡ x ∷ [] → GoesOn p a a ks x pending before before
loop_begins p a ks x pending before k h is = record {
  adds = adds_none a;
  known = k;
  there = subst (All (IsPair p a)) (sym is) (All-cons (IsPair p a) x [] h (All-nil (IsPair p a)));
  meant = λ w bs e f s. (
    bs,
    subst (λ c. ShowsBindings (with_diagrams w c) before bs) f s,
    ap (λ xs. matched_on p.tokens (waiting p a xs) bs) is ∙ and_then_some (matched p.tokens (tree_in p x.pattern) (Flat (tree_of a x.diagram)) bs),
  );
}

-- a pair as the first arena has it
pair_first : (p : Parsed) (a b : Arena) (x : Pair) → AddsIntegers a b → x.diagram < count_of a → pair_of p b x ≡ pair_of p a x
pair_first p a b x g h = ap (λ d. (tree_in p x.pattern, d)) (adds_keeps a b g x.diagram h)

map_first : (p : Parsed) (a b : Arena) (xs : List Pair) → AddsIntegers a b → All (IsPair p a) xs → map (pair_of p b) xs ≡ map (pair_of p a) xs
map_first p a b [] g h = refl
map_first p a b (x ∷ xs) g h =
    let here = h 0 x (omega arith) in
    ap₂ (λ y ys. y ∷ ys) (pair_first p a b x g here.diagram) (map_first p a b xs g (All-tail (IsPair p a) x xs h))

-- what a step leaves is of the first arena, since it is below what was taken off
more_first : (p : Parsed) (a b : Arena) (i : ℕ) → AddsIntegers a b → i < count_of a → (xs : List Pair) → All (IsPair p b) xs
    → All (λ (y : Pair). y.diagram < i) xs → All (IsPair p a) xs
more_first p a b i g l xs h below k d m =
    let q = h k d m in let z = below k d m in
    let lt : (get_or xs k d).diagram < count_of a = omega (arith, z, l) in
    record { pattern = q.pattern; diagram = lt; composed = subst IsComposed (adds_keeps a b g (get_or xs k d).diagram lt) q.composed }

last_pair : (p : Parsed) (a : Arena) (rest : List Pair) (x : Pair) → All (IsPair p a) (rest ++ x ∷ []) → IsPair p a x
last_pair p a rest x h =
    subst (IsPair p a) (get_or_push rest x x (length rest) refl) (h (length rest) x (let z = length_push rest x in omega (arith, z)))

other_pairs : (p : Parsed) (a : Arena) (rest : List Pair) (x : Pair) → All (IsPair p a) (rest ++ x ∷ []) → All (IsPair p a) rest
other_pairs p a rest x h k d l =
    subst (IsPair p a) (get_or_append_left rest (x ∷ []) d k l) (h k d (let z = length_push rest x in omega (arith, z, l)))

-- the last pair is taken off
pub record TakenOff (pending rest : List Pair) (x : Pair) : Type 0 where
  pub is : pending ≡ rest ++ x ∷ []

pub taken_off : {pending : List Pair} {o : Option Pair} {x : Pair} (rest : List Pair) → pending ≡ rest ++ option_to_list o → o ≡ Some x
    → TakenOff pending rest x
taken_off rest e same = record { is = e ∙ ap (λ o. rest ++ option_to_list o) same }

pub pair_next : {p : Parsed} {a b : Arena} {ks : List Known} {whole x : Pair} {pending rest : List Pair} {before after : List code_binding.Binding}
    → GoesOn p a b ks whole pending before after → TakenOff pending rest x → IsPair p b x
pair_next {p} {a} {b} {x = x} {rest = rest} g off = pair_stays p a b x g.adds (last_pair p a rest x (subst (All (IsPair p a)) off.is g.there))

-- what a pair that may match still has left
pub left_by : (p : Parsed) (a b : Arena) (x : Pair) (waited waits : List Pair) (before after : List code_binding.Binding) (may : Bool) → may ≡ true
    → MatchBool may (Leaves p a b x waited waits before after) (Refuses p a x) → Leaves p a b x waited waits before after
left_by p a b x waited waits before after true e h = h
left_by p a b x waited waits before after false e h = absurd (false≢true e)

pub refused_by : (p : Parsed) (a b : Arena) (x : Pair) (waited waits : List Pair) (before after : List code_binding.Binding) (may : Bool) → may ≡ false
    → MatchBool may (Leaves p a b x waited waits before after) (Refuses p a x) → Refuses p a x
refused_by p a b x waited waits before after false e h = h
refused_by p a b x waited waits before after true e h = absurd (false≢true (sym e))

pub loop_goes_on : {p : Parsed} {a b c : Arena} {ks ls : List Known} {whole x : Pair} {pending rest now : List Pair}
    {before between after : List code_binding.Binding} → GoesOn p a b ks whole pending before between → TakenOff pending rest x
    → AddsIntegers b c → Remembers c ls → Leaves p b c x rest now between after → GoesOn p a c ls whole now before after
loop_goes_on {p} {a} {b} {c} {x = x} {rest = rest} g off adds known step = record {
  adds = adds_on a b c g.adds adds;
  known = known;
  there = subst (All (IsPair p a)) (sym step.pushed) (All-append (IsPair p a) rest step.more others mores);
  meant = λ w bs e f h.
      let old = g.meant w bs e f h in
      let new = step.meant (with_diagrams w b) old.0 e refl old.1 in (
        new.0,
        new.1,
        ap (λ xs. matched_on p.tokens (waiting p a xs) new.0) step.pushed
            ∙ ap (λ xs. matched_on p.tokens xs new.0) (waiting_more p a rest step.more ∙ ap (λ xs. xs ++ waiting p a rest) (sym as_first))
            ∙ sym (new.2 (waiting p a rest))
            ∙ ap (λ y. matched_on p.tokens (y ∷ waiting p a rest) old.0) (pair_first p a b x g.adds last.diagram)
            ∙ ap (λ xs. matched_on p.tokens xs old.0) (sym (waiting_next p a rest x))
            ∙ ap (λ xs. matched_on p.tokens (waiting p a xs) old.0) (sym off.is)
            ∙ old.2,
      );
}
  where
    all : All (IsPair p a) (rest ++ x ∷ [])
    all = subst (All (IsPair p a)) off.is g.there

    last : IsPair p a x
    last = last_pair p a rest x all

    others : All (IsPair p a) rest
    others = other_pairs p a rest x all

    mores : All (IsPair p a) step.more
    mores = more_first p a b x.diagram g.adds last.diagram step.more step.there step.below

    backwards : All (IsPair p a) (reverse step.more)
    backwards = All-permutation (IsPair p a) step.more (reverse step.more) (IsPermutation-reverse step.more) mores

    as_first : waiting p b step.more ≡ waiting p a step.more
    as_first = map_first p a b (reverse step.more) g.adds backwards

-- the sizes of the diagrams of pairs together
abbrev pub sizes : Arena → List Pair → ℕ
sizes a xs = sum_by (λ (y : Pair). size (tree_of a y.diagram)) xs

same_sizes : (p : Parsed) (a b : Arena) (xs : List Pair) → AddsIntegers a b → All (IsPair p a) xs → sizes b xs ≡ sizes a xs
same_sizes p a b [] g h = refl
same_sizes p a b (y ∷ ys) g h =
    let f : Pair → ℕ = λ z. size (tree_of a z.diagram) in
    let f' : Pair → ℕ = λ z. size (tree_of b z.diagram) in
    let here = ap size (adds_keeps a b g y.diagram (h 0 y (omega arith)).diagram) in
    let one : sum_by f' (y ∷ []) ≡ sum_by f (y ∷ []) = sum_by_push f' [] y ∙ ap (λ k. 0 + k) here ∙ sym (sum_by_push f [] y) in
    let others = same_sizes p a b ys g (All-tail (IsPair p a) y ys h) in
    sum_by-append f' (y ∷ []) ys ∙ ap₂ (λ m n. m + n) one others ∙ sym (sum_by-append f (y ∷ []) ys)

pub loop_falls : {p : Parsed} {a b c : Arena} {ks : List Known} {whole x : Pair} {pending rest now : List Pair}
    {before between after : List code_binding.Binding} → GoesOn p a b ks whole pending before between → TakenOff pending rest x
    → Leaves p b c x rest now between after → sizes a now < sizes a pending
loop_falls {p} {a} {b} {x = x} {pending = pending} {rest = rest} {now = now} g off step =
    let f : Pair → ℕ = λ y. size (tree_of a y.diagram) in
    let f' : Pair → ℕ = λ y. size (tree_of b y.diagram) in
    let all : All (IsPair p a) (rest ++ x ∷ []) = subst (All (IsPair p a)) off.is g.there in
    let last = last_pair p a rest x all in
    let mores = more_first p a b x.diagram g.adds last.diagram step.more step.there step.below in
    let e0 : sum_by f now ≡ sum_by f rest + sum_by f step.more = ap (sum_by f) step.pushed ∙ sum_by-append f rest step.more in
    let e1 : sum_by f pending ≡ sum_by f rest + (0 + f x) = ap (sum_by f) off.is ∙ sum_by-append f rest (x ∷ []) in
    let e2 : sum_by f' step.more ≡ sum_by f step.more = same_sizes p a b step.more g.adds mores in
    let e3 : f' x ≡ f x = ap size (adds_keeps a b g.adds x.diagram last.diagram) in
    let s = step.smaller in
    omega (arith, e0, e1, e2, e3, s)

-- what the pattern of a pair answers, for each world that shows the bindings so far
abbrev pub ShowsWhole : Parsed → (a c : Arena) → Pair → Bool → (before after : List code_binding.Binding) → Type 0
ShowsWhole p a c whole matches before after =
    (w : World) (bs : Bindings) → w.tree ≡ p → w.diagrams ≡ a → ShowsBindings w before bs
    → ShowsMatched (with_diagrams w c) matches after (matched p.tokens (tree_in p whole.pattern) (Flat (tree_of a whole.diagram)) bs)

-- what a refusal of one pair says of the whole
pub loop_refuses : {p : Parsed} {a b : Arena} {ks : List Known} {whole x : Pair} {pending rest : List Pair} {before between : List code_binding.Binding}
    (c : Arena) (after : List code_binding.Binding) → GoesOn p a b ks whole pending before between → TakenOff pending rest x → Refuses p b x
    → ShowsWhole p a c whole false before after
loop_refuses {p} {a} {b} {x = x} {pending = pending} {rest = rest} c after g off fails w bs e f h =
    let old = g.meant w bs e f h in
    let last = last_pair p a rest x (subst (All (IsPair p a)) off.is g.there) in
    let none : matched_on p.tokens (waiting p a pending) old.0 ≡ None =
    ap (λ xs. matched_on p.tokens (waiting p a xs) old.0) off.is ∙ ap (λ xs. matched_on p.tokens xs old.0) (waiting_next p a rest x)
    ∙ ap (λ y. matched_on p.tokens (y ∷ waiting p a rest) old.0) (sym (pair_first p a b x g.adds last.diagram)) ∙ fails (waiting p a rest) old.0 in
    subst (λ o. ShowsMatched (with_diagrams w c) false after o) (sym none ∙ old.2) tt

-- ---- what is handed out

pub handed_out : (w : World) (b : Bool) (found handed : List code_binding.Binding) (o : Option Bindings) → ShowsMatched w b found o → b ≡ true
    → handed ≡ found → ShowsMatch w (Some handed) o
handed_out w true found handed (Some bs) h e same = subst (λ us. ShowsBindings w us bs) (sym same) h
handed_out w true found handed None h e same = absurd h
handed_out w false found handed o h e same = absurd (false≢true e)

pub not_handed_out : (w : World) (b : Bool) (found : List code_binding.Binding) (o : Option Bindings) → ShowsMatched w b found o → b ≡ false
    → ShowsMatch w None o
not_handed_out w false found (Some bs) h e = absurd h
not_handed_out w false found None h e = tt
not_handed_out w true found o h e = absurd (false≢true (sym e))
