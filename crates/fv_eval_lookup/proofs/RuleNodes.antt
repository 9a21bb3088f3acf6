-- What the nodes of rules are.
use Rattle.std.proofs.Common.{◌≡◌, ℕ, ◌<◌, arith, List, [], ◌∷◌, map, Some, refl, sym, ap, subst, ◌∙◌, All}
use Rattle.std.specs.Prelude.{filter, slice_get}
use Rattle.std.proofs.lemmas.Simd.{map-map}
use Rattle.std.proofs.lemmas.Option.{none-some, same_Some, slice_get_within, get_or_from_slice_get}
use Rattle.std.proofs.lemmas.List.Elements.{All-nil, All-cons, All-tail}
use Rattle.fv_parse_grammar.specs.headline.Tree.{Tree, items}
use Rattle.fv_parse.specs.headline.Trees.{text_of}
use Rattle.fv_parse.specs.Trees.{Parsed, size_of, tree_in, first_named}
use Rattle.fv_parse_grammar.specs.headline.Tree as tree
use Rattle.fv_parse.specs.Arena.{forest, tree_of}
use Rattle.fv_parse.specs.TreeId.{TreeId}
use Rattle.fv_parse.specs.TreeNode.{TreeNode}
use Rattle.fv_parse.specs.TreeNode.TheVariants as nodes
use Rattle.fv_eval_lookup.specs.declared.by_name.Defined.{Defined}
use Rattle.fv_eval_scopes.specs.declared.value.Ruled.TheVariants as ruled
use Rattle.fv_rules.specs.headline.Values.{Rule, rule_of, is_of}
use Rattle.fv_eval_scopes.specs.Shows.{IsFunction, case_in, name_in, rules_in}
use Rattle.fv_eval_lookup.specs.Chosen.{IsFirstRule}

-- what is no `case` has no rules
pub other_case : (ts : List Tree) (node : TreeNode) (start : ℕ) → ((list : TreeId) → node ≡ nodes.Case list → ⊥) → case_in (tree_of ts node start) ≡ []
other_case ts (nodes.Case list) start c = absurd (c list refl)
other_case ts (nodes.List ids) start c = none ids.items
  where
    none : (is : List TreeId) → case_in (forest ts is tree.End) ≡ []
    none [] = refl
    none (i ∷ is) = refl
other_case ts node start c = refl

-- the node is no definition by patterns
abbrev pub IsNoFunction : TreeNode → Type 0
IsNoFunction node = (n : ℕ) (ps x : TreeId) → node ≡ nodes.Function n ps x → ⊥

-- what is neither a rule nor a definition by patterns has no patterns, and is its right side
pub other_rule : (ts : List Tree) (node : TreeNode) (start : ℕ) → ((ps x : TreeId) → node ≡ nodes.Rule ps x → ⊥) → IsNoFunction node
    → rule_of (tree_of ts node start) ≡ record { patterns = []; body = tree_of ts node start }
other_rule ts (nodes.Rule ps x) start r f = absurd (r ps x refl)
other_rule ts (nodes.Function n ps x) start r f = absurd (f n ps x refl)
other_rule ts (nodes.List ids) start r f = none ids.items
  where
    none : (is : List TreeId) → rule_of (forest ts is tree.End) ≡ record { patterns = []; body = forest ts is tree.End }
    none [] = refl
    none (i ∷ is) = refl
other_rule ts node start r f = refl

-- what is no definition by patterns is none
pub not_a_function : (ts : List Tree) (node : TreeNode) (start : ℕ) → IsNoFunction node → IsFunction (tree_of ts node start) → ⊥
not_a_function ts (nodes.Function n ps x) start f h = f n ps x refl
not_a_function ts (nodes.List ids) start f h = none ids.items h
  where
    none : (is : List TreeId) → IsFunction (forest ts is tree.End) → ⊥
    none [] h = h
    none (i ∷ is) h = h
not_a_function ts node start f h = h

-- these are the definitions of a name in a list, in order
abbrev pub AreOfName : Parsed → (list name : ℕ) → List Defined → Type 0
AreOfName p list name found =
    (n : ℕ) → first_named p.tokens n ≡ name
    → map (λ (d : Defined). tree_in p d.node) found ≡ filter (is_of p.tokens (text_of p.tokens n)) (items (tree_in p list))

-- the rules that definitions are
abbrev pub rules_of : Parsed → List Defined → List Rule
rules_of p found = map (λ (d : Defined). rule_of (tree_in p d.node)) found

-- those that nodes are
abbrev pub rules_at : Parsed → List TreeId → List Rule
rules_at p ids = map (λ (i : TreeId). rule_of (tree_in p i)) ids

-- the definitions that have the name of one by patterns are the rules there
pub functions_are : (t p : Parsed) (list first n start name : ℕ) (ps x : Tree) (found : List Defined) → t ≡ p → tree_in t first ≡ tree.Function start n ps x
    → AreOfName p list name found → name ≡ first_named t.tokens n → rules_of p found ≡ rules_in p (ruled.Definitions list first)
functions_are t p list first n start name ps x found same q are named =
    let e : name_in p.tokens (tree_in p first) ≡ text_of p.tokens n =
    subst (λ (r : Parsed). name_in r.tokens (tree_in r first) ≡ text_of r.tokens n) same (ap (name_in t.tokens) q) in
    let k : first_named p.tokens n ≡ name = sym (subst (λ (r : Parsed). name ≡ first_named r.tokens n) same named) in
    sym (map-map rule_of (λ (d : Defined). tree_in p d.node) found) ∙ ap (map rule_of) (are n k)
    ∙ ap (λ y. map rule_of (filter (is_of p.tokens y) (items (tree_in p list)))) (sym e)

-- the first of a list
pub first_is : (p : Parsed) (X : Type 0) (node : X → TreeId) (xs : List X) (x : X) (rs : List Rule) → map (λ y. rule_of (tree_in p (node y))) xs ≡ rs
    → All (λ y. node y < size_of p) xs → Some x ≡ slice_get xs 0 → IsFirstRule p (Some (node x)) rs
first_is p X node [] x rs e h is = absurd (none-some x (sym is))
first_is p X node (y ∷ ys) x rs e h is =
    let same : y ≡ x = sym (same_Some x y is) in
    let others = map (λ z. rule_of (tree_in p (node z))) ys in
    (subst (λ z. node z < size_of p) same (h 0 y (omega arith)), others, sym e ∙ ap (λ z. rule_of (tree_in p (node z)) ∷ others) same)

-- the rules of a `case`
pub case_rules_are : (t p : Parsed) (id : ℕ) (xs : List TreeId) → t ≡ p → map (tree_in t) xs ≡ case_in (tree_in t id)
    → rules_at p xs ≡ rules_in p (ruled.Case id)
case_rules_are t p id xs same e =
    sym (map-map rule_of (tree_in p) xs)
    ∙ ap (map rule_of) (subst (λ (r : Parsed). map (tree_in r) xs ≡ case_in (tree_in r id)) same e)

pub functions_nodes : (p : Parsed) (found : List Defined) (rs : List Rule) → rules_of p found ≡ rs
    → rules_at p (map (λ (d : Defined). d.node) found) ≡ rs
functions_nodes p found rs e =
    map-map (λ (i : TreeId). rule_of (tree_in p i)) (λ (d : Defined). d.node) found ∙ e

-- the nodes are there
abbrev pub AreNodes : Parsed → List TreeId → Type 0
AreNodes p ids = All (λ (i : TreeId). i < size_of p) ids

pub nodes_there : (p : Parsed) (found : List Defined) → All (λ (d : Defined). d.node < size_of p) found → AreNodes p (map (λ (d : Defined). d.node) found)
nodes_there p [] h = All-nil (λ (i : TreeId). i < size_of p)
nodes_there p (d ∷ ds) h =
    All-cons (λ (i : TreeId). i < size_of p) d.node (map (λ (e : Defined). e.node) ds) (h 0 d (omega arith))
    (nodes_there p ds (All-tail (λ (e : Defined). e.node < size_of p) d ds h))

pub all_over : (t p : Parsed) (xs : List TreeId) → t ≡ p → AreNodes t xs → AreNodes p xs
all_over t p xs same h = subst (λ (q : Parsed). AreNodes q xs) same h

-- a node that is there
pub node_there : (p : Parsed) (ids : List TreeId) (i : ℕ) (id : TreeId) → AreNodes p ids → slice_get ids i ≡ Some id → id < size_of p
node_there p ids i id h e = subst (λ x. x < size_of p) (get_or_from_slice_get ids i id id e) (h i id (slice_get_within ids i id e))
