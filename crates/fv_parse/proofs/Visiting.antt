-- The names of patterns, a visit at a time.
use Rattle.std.proofs.Common.{◌≡◌, ℕ, suc, ◌+◌, ◌-◌, ◌<◌, List, [], ◌∷◌, ◌++◌, length, map, reverse, refl, sym, ap, ap₂, subst, ◌∙◌, arith, append_assoc}
use Rattle.std.specs.List.{flat_map, sum_by}
use Rattle.std.proofs.lemmas.List.{append-nil, reverse-append, reverse-reverse, length-reverse, get_or-reverse, map-append}
use Rattle.std.proofs.lemmas.List.Elements.{All-append, All-weaker, All-cons, All-nil, All-get_or, All-from_get_or}
use Rattle.std.proofs.lemmas.List.Sums.{sum_by-append}
use Rattle.std.proofs.lemmas.Grind.{flat_map-append}
use Rattle.fv_parse_tree.specs.declared.node.TreeId.{TreeId}
use Rattle.fv_parse_tree.specs.declared.node.TreeNode.{TreeNode}
use Rattle.fv_parse_tree.specs.declared.node.TreeNode.TheVariants as nodes
use Rattle.fv_parse.specs.declared.definitions.Defined.{Defined}
use Rattle.fv_parse_grammar.specs.headline.Tree.{Tree, End, Binary, More}
use Rattle.fv_parse_tree.specs.Arena.{tree_at, tree_of, forest}
use Rattle.fv_parse.specs.headline.Trees.{AllBelow, PartsBelow}
use Rattle.fv_parse.specs.headline.Definitions.{names_in}
use Rattle.fv_parse.specs.inner.Visits.{parts_left, own_names}

-- the trees of a stack, from its top on
abbrev pub left : List Tree → List TreeId → List Tree
left ts stack = map (tree_at ts) (reverse stack)

-- how many visits a tree takes
abbrev pub visits : Tree → ℕ
visits (Binary s o x y) = suc (visits x + visits y)
visits (More x y) = suc (visits x + visits y)
visits x = 1

-- how many visits a stack takes
abbrev pub weight : List Tree → List TreeId → ℕ
weight ts stack = sum_by visits (left ts stack)

left_popped : (ts : List Tree) (rest : List TreeId) (id : TreeId) → left ts (rest ++ id ∷ []) ≡ tree_at ts id ∷ left ts rest
left_popped ts rest id = ap (map (tree_at ts)) (reverse-append rest (id ∷ []))

left_pushed : (ts : List Tree) (rest ids : List TreeId) → left ts (rest ++ reverse ids) ≡ map (tree_at ts) ids ++ left ts rest
left_pushed ts rest ids =
    ap (map (tree_at ts)) (reverse-append rest (reverse ids) ∙ ap (λ l. l ++ reverse rest) (reverse-reverse ids)) ∙ map-append (tree_at ts) ids (reverse rest)

-- the names of a node are its own and those of its parts
names_forest : (ts : List Tree) (ids : List TreeId) → flat_map names_in (map (tree_at ts) ids) ≡ names_in (forest ts ids End)
names_forest ts [] = refl
names_forest ts (id ∷ ids) = ap (λ l. names_in (tree_at ts id) ++ l) (names_forest ts ids)

names_node : (ts : List Tree) (node : TreeNode) (start : ℕ)
    → own_names node ++ flat_map names_in (map (tree_at ts) (parts_left node)) ≡ names_in (tree_of ts node start)
names_node ts (nodes.Binary o x y) start = ap (λ l. names_in (tree_at ts x) ++ l) (append-nil (names_in (tree_at ts y)))
names_node ts (nodes.List ids) start = names_forest ts ids.items
names_node ts node start = refl

sum_cons : (t : Tree) (ts : List Tree) → sum_by visits (t ∷ ts) ≡ visits t + sum_by visits ts
sum_cons t ts = omega (arith, sum_by-append visits (t ∷ []) ts)

-- a node takes one visit more than its parts
visits_forest : (ts : List Tree) (ids : List TreeId) → sum_by visits (map (tree_at ts) ids) < visits (forest ts ids End)
visits_forest ts [] = omega arith
visits_forest ts (id ∷ ids) = let e = visits_forest ts ids in omega (arith, sum_cons (tree_at ts id) (map (tree_at ts) ids))

visits_node : (ts : List Tree) (node : TreeNode) (start : ℕ) → sum_by visits (map (tree_at ts) (parts_left node)) < visits (tree_of ts node start)
visits_node ts (nodes.Binary o x y) start = omega (arith, sum_cons (tree_at ts x) (tree_at ts y ∷ []), sum_cons (tree_at ts y) [])
visits_node ts (nodes.List ids) start = visits_forest ts ids.items
visits_node ts node start = omega arith

below_node : (m n : ℕ) (node : TreeNode) → PartsBelow m node → m < n → AllBelow n (parts_left node)
below_node m n (nodes.Binary o x y) p h =
    let a = p.0 in let b = p.1 in
    All-cons (λ (i : TreeId). i < n) x (y ∷ []) (omega arith) (All-cons (λ (i : TreeId). i < n) y [] (omega arith) (All-nil (λ (i : TreeId). i < n)))
below_node m n (nodes.List ids) p h = All-weaker (λ (i : TreeId). i < m) (λ (i : TreeId). i < n) (λ i lt. omega arith) ids.items p
below_node m n node p h = All-nil (λ (i : TreeId). i < n)

-- what a visit leaves
pub record Visited (n : ℕ) (ts : List Tree) (stack new : List TreeId) (names whole : List Defined) : Type 0 where
  pub so_far : names ++ flat_map names_in (left ts new) ≡ whole
  pub lighter : weight ts new < weight ts stack

pub visit : (n : ℕ) (ts : List Tree) (stack rest new : List TreeId) (id : TreeId) (node : TreeNode) (start : ℕ) (names all whole : List Defined)
    → stack ≡ rest ++ id ∷ [] → tree_at ts id ≡ tree_of ts node start → all ≡ names ++ own_names node → new ≡ rest ++ reverse (parts_left node)
    → names ++ flat_map names_in (left ts stack) ≡ whole → Visited n ts stack new all whole
visit n ts stack rest new id node start names all whole popped is grown pushed so_far =
    let parts = map (tree_at ts) (parts_left node) in
    let before : left ts stack ≡ tree_of ts node start ∷ left ts rest = ap (left ts) popped ∙ left_popped ts rest id ∙ ap (λ t. t ∷ left ts rest) is in
    let after : left ts new ≡ parts ++ left ts rest = ap (left ts) pushed ∙ left_pushed ts rest (parts_left node) in
    let own = own_names node in
    let left_names = flat_map names_in (left ts rest) in
    record {
      so_far =
          ap₂ (λ a b. a ++ b) grown (ap (flat_map names_in) after ∙ flat_map-append names_in parts (left ts rest))
          ∙ append_assoc names own (flat_map names_in parts ++ left_names)
          ∙ ap (λ l. names ++ l) (sym (append_assoc own (flat_map names_in parts) left_names) ∙ ap (λ l. l ++ left_names) (names_node ts node start))
          ∙ ap (λ l. names ++ flat_map names_in l) (sym before) ∙ so_far;
      lighter = omega (
        arith,
        visits_node ts node start,
        sum_cons (tree_of ts node start) (left ts rest),
        ap (sum_by visits) before,
        ap (sum_by visits) after,
        sum_by-append visits parts (left ts rest),
      );
    }

pub below_pushed : (m n : ℕ) (rest new : List TreeId) (node : TreeNode)
    → AllBelow n rest → PartsBelow m node → m < n → new ≡ rest ++ reverse (parts_left node) → AllBelow n new
below_pushed m n rest new node h p lt pushed =
    subst (AllBelow n) (sym pushed)
    (All-append (λ (i : TreeId). i < n) rest (reverse (parts_left node)) h (reversed (parts_left node) (below_node m n node p lt)))
  where
    reversed : (ids : List TreeId) → AllBelow n ids → AllBelow n (reverse ids)
    reversed ids h = All-from_get_or (λ (i : TreeId). i < n) (reverse ids) 0 (λ k lt.
        let inside : k < length ids = omega (arith, length-reverse ids) in
        subst (λ i. i < n) (sym (get_or-reverse ids k 0 inside)) (All-get_or (λ (i : TreeId). i < n) ids (length ids - 1 - k) 0 (omega arith) h))
