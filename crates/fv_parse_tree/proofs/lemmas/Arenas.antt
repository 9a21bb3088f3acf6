-- What a push does to the trees of an arena.
use Rattle.std.proofs.Common.{◌≡◌, ℕ, zero, suc, ◌+◌, ◌<◌, ◌≤◌, List, [], ◌∷◌, ◌++◌, length, get_or, refl, ap, ap₂, subst, ◌∙◌, arith}
use Rattle.std.proofs.lemmas.List.Elements.{All-head, All-tail, All-weaker}
use Rattle.fv_base.specs.Arena.{AreBelowFrom}
use Rattle.fv_base.proofs.lemmas.Lists.{length_snoc}
use Rattle.fv_base.proofs.lemmas.Arena as arenas
use Rattle.fv_base.proofs.lemmas.Arena.{push_keeps, pushed_tree, tree_at_place}
use Rattle.fv_parse_tree.specs.declared.arena.Entry.{Entry}
use Rattle.fv_parse_tree.specs.declared.node.TreeId.{TreeId}
use Rattle.fv_parse_tree.specs.declared.node.TreeNode.{TreeNode}
use Rattle.fv_parse_tree.specs.declared.node.TreeNode.TheVariants as nodes
use Rattle.fv_parse_tree.specs.declared.pending.Pending.{Pending}
use Rattle.fv_parse_grammar.specs.headline.Tree.{Tree, End, More, Group, Abstraction, Case, Iteration, Ports, Slider}
use Rattle.fv_parse_grammar.specs.headline.Tree.{Panel, Delayed, Apply, Binary, Where, Rule, Constant, Function}
use Rattle.fv_parse_tree.specs.Arena.{tree_at, tree_of, entry_tree, trees, Keeps, Adds, forest, AreInside}
use Rattle.fv_parse_tree.specs.Arena.{lean, AllBelow, PartsBelow, EntryBelow, AreOver, AreBuilt}

-- a number below a bound, and a part that stands below it
abbrev pub Under : ℕ → TreeId → Type 0
Under n id = id < n

abbrev pub Waits : ℕ → Pending → Type 0
Waits n p = p.left < n

pub length_trees : (es : List Entry) → length (trees es) ≡ length es
length_trees es = arenas.length_trees entry_tree es

pub pushed : (old new : List Entry) (e : Entry) (id : TreeId) → new ≡ old ++ e ∷ [] → id ≡ length old → Adds (trees old) (trees new) id e.node e.start
pushed old new e id is at =
    let longer : length new ≡ suc (length old) = ap length is ∙ length_snoc old e in
    record {
      keeps = push_keeps entry_tree End old new e is;
      inside = omega (arith, length_trees new);
      is = pushed_tree entry_tree End old new e id at is;
    }

-- ---- lists of trees
pub forest_append : (ts : List Tree) (ids more : List TreeId) (y : Tree) → forest ts (ids ++ more) y ≡ forest ts ids (forest ts more y)
forest_append ts [] more y = refl
forest_append ts (i ∷ ids) more y = ap (λ z. More (tree_at ts i) z) (forest_append ts ids more y)

forest_same : (ts us : List Tree) (n : ℕ) (ids : List TreeId) (y : Tree)
    → AllBelow n ids → ((j : ℕ) → j < n → tree_at ts j ≡ tree_at us j) → forest ts ids y ≡ forest us ids y
forest_same ts us n [] y h same = refl
forest_same ts us n (i ∷ ids) y h same = ap₂ More (same i (All-head (Under n) i ids h)) (forest_same ts us n ids y (All-tail (Under n) i ids h) same)

pub forest_keeps : (old new : List Tree) (ids : List TreeId) (y : Tree) → AllBelow (length old) ids → Keeps old new → forest new ids y ≡ forest old ids y
forest_keeps old new ids y h k = forest_same new old (length old) ids y h k.same

-- the tree of a node depends on the trees of its parts alone
of_parts : (ts us : List Tree) (i : ℕ) (node : TreeNode) (start : ℕ)
    → PartsBelow i node → ((j : ℕ) → j < i → tree_at ts j ≡ tree_at us j) → tree_of ts node start ≡ tree_of us node start
of_parts ts us i (nodes.Group x) start p same = ap (Group start) (same x p)
of_parts ts us i (nodes.Abstraction ns x) start p same = ap (Abstraction start ns.items) (same x p)
of_parts ts us i (nodes.Case x) start p same = ap (Case start) (same x p)
of_parts ts us i (nodes.Iteration k n x y) start p same = ap₂ (Iteration start k n) (same x p.0) (same y p.1)
of_parts ts us i (nodes.Ports s x) start p same = ap (Ports start s) (same x p)
of_parts ts us i (nodes.Slider k s x0 x1 x2 x3) start p same =
    ap₂ (λ a b. Slider start k s a b (tree_at ts x2) (tree_at ts x3)) (same x0 p.0) (same x1 p.1)
    ∙ ap₂ (Slider start k s (tree_at us x0) (tree_at us x1)) (same x2 p.2) (same x3 p.3)
of_parts ts us i (nodes.Panel k s x) start p same = ap (Panel start k s) (same x p)
of_parts ts us i (nodes.Delayed x) start p same = ap (Delayed start) (same x p)
of_parts ts us i (nodes.Apply x y) start p same = ap₂ (Apply start) (same x p.0) (same y p.1)
of_parts ts us i (nodes.Binary o x y) start p same = ap₂ (Binary start o) (same x p.0) (same y p.1)
of_parts ts us i (nodes.Where x y) start p same = ap₂ (Where start) (same x p.0) (same y p.1)
of_parts ts us i (nodes.Rule x y) start p same = ap₂ (Rule start) (same x p.0) (same y p.1)
of_parts ts us i (nodes.Constant n x) start p same = ap (Constant start n) (same x p)
of_parts ts us i (nodes.Function n x y) start p same = ap₂ (Function start n) (same x p.0) (same y p.1)
of_parts ts us i (nodes.List ids) start p same = forest_same ts us i ids.items End p same
of_parts ts us i node start p same = refl

below_at : (k : ℕ) (es : List Entry) (i : ℕ) (d : Entry) → AreBelowFrom EntryBelow k es → i < length es → EntryBelow (k + i) (get_or es i d)
below_at k [] i d over h = absurd (omega arith)
below_at k (e ∷ es) zero d over h = let here : k ≡ k + 0 = omega arith in subst (λ n. PartsBelow n e.node) here over.0
below_at k (e ∷ es) (suc i) d over h =
    let there : suc k + i ≡ k + suc i = omega arith in subst (λ n. EntryBelow n (get_or es i d)) there (below_at (suc k) es i d over.1 (omega arith))

-- an arena's entries stand each at its place
pub are_built : (es : List Entry) → AreOver es → AreBuilt es
are_built es over = λ i d h.
    let here : 0 + i ≡ i = omega arith in
    record {
      parts = subst (λ n. EntryBelow n (get_or es i d)) here (below_at 0 es i d over h);
      tree = tree_at_place entry_tree EntryBelow End (λ ts us j e p same. of_parts ts us j e.node e.start p same) es i d over h;
    }

-- numbers below a length are below a greater one
pub below_more : (m n : ℕ) (ids : List TreeId) → AllBelow m ids → m ≤ n → AllBelow n ids
below_more m n ids h le = All-weaker (Under m) (Under n) (λ id lt. omega arith) ids h

-- ---- parts that wait
pub lean_push : (ts : List Tree) (ps : List Pending) (p : Pending) (y : Tree)
    → lean ts (ps ++ p ∷ []) y ≡ lean ts ps (Binary p.start p.op (tree_at ts p.left) y)
lean_push ts [] p y = refl
lean_push ts (q ∷ ps) p y = ap (λ z. Binary q.start q.op (tree_at ts q.left) z) (lean_push ts ps p y)

pub lean_keeps : (old new : List Tree) (ps : List Pending) (y : Tree) → AreInside old ps → Keeps old new → lean new ps y ≡ lean old ps y
lean_keeps old new [] y h k = refl
lean_keeps old new (q ∷ ps) y h k =
    ap (λ z. Binary q.start q.op z (lean new ps y)) (k.same q.left (All-head (Waits (length old)) q ps h))
    ∙ ap (λ z. Binary q.start q.op (tree_at old q.left) z) (lean_keeps old new ps y (All-tail (Waits (length old)) q ps h) k)

-- what stands in a list stands in one that keeps it
pub inside_more : (old new : List Tree) (ps : List Pending) → AreInside old ps → Keeps old new → AreInside new ps
inside_more old new ps h k = let le = k.longer in All-weaker (Waits (length old)) (Waits (length new)) (λ p lt. omega arith) ps h
