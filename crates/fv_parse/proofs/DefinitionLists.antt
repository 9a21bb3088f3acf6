-- What a list defines, a step at a time.
use Rattle.std.proofs.Common.{◌≡◌, ℕ, ◌+◌, ◌<◌, ◌≤◌, List, [], ◌∷◌, ◌++◌, length, map, take, get_or, Option, None, refl, sym, ap, ap₂, ◌∙◌}
use Rattle.std.specs.List.{filter_map, cons_option}
use Rattle.std.proofs.lemmas.List.{take_more, take_all, map_push}
use Rattle.std.proofs.lemmas.List.Elements.{filter_map-append}
use Rattle.fv_parse_tree.specs.declared.node.TreeId.{TreeId}
use Rattle.fv_parse_tree.specs.declared.node.TreeNode.{TreeNode}
use Rattle.fv_parse_tree.specs.declared.node.TreeNode.TheVariants as nodes
use Rattle.fv_parse_grammar.specs.headline.Tree.{Tree, End, items}
use Rattle.fv_parse_tree.specs.Arena.{tree_of, forest}
use Rattle.fv_parse.specs.declared.definitions.Defined.{Defined}
use Rattle.fv_parse.specs.Trees.{Parsed, tree_in}
use Rattle.fv_parse.specs.headline.Definitions.{defined_by, definitions_of}

pub items_on : (p : Parsed) (ids : List TreeId) (i : ℕ) (d : TreeId) (list all : List Defined) (found : Option Defined)
    → i < length ids → all ≡ list ++ cons_option found []
    → found ≡ defined_by (length p.tokens.tokens) (tree_in p (get_or ids i d))
    → list ≡ filter_map (defined_by (length p.tokens.tokens)) (map (tree_in p) (take i ids))
    → all ≡ filter_map (defined_by (length p.tokens.tokens)) (map (tree_in p) (take (i + 1) ids))
items_on p ids i d list all found h grown is so_far =
    let by = defined_by (length p.tokens.tokens) in
    let front = map (tree_in p) (take i ids) in
    let last = tree_in p (get_or ids i d) in
    grown ∙ ap₂ (λ xs o. xs ++ cons_option o []) so_far is ∙ sym (filter_map-append by front (last ∷ []))
    ∙ ap (filter_map by) (sym (map_push (tree_in p) (take i ids) (get_or ids i d)) ∙ ap (map (tree_in p)) (sym (take_more ids i d h)))

pub items_end : (p : Parsed) (id : TreeId) (ids : List TreeId) (i : ℕ) (list : List Defined) → length ids ≤ i → map (tree_in p) ids ≡ items (tree_in p id)
    → list ≡ filter_map (defined_by (length p.tokens.tokens)) (map (tree_in p) (take i ids)) → list ≡ definitions_of p.tokens (tree_in p id)
items_end p id ids i list h are so_far = so_far ∙ ap (filter_map (defined_by (length p.tokens.tokens))) (ap (map (tree_in p)) (take_all i ids h) ∙ are)

-- what is neither a definition nor a rule defines nothing
pub defines_nothing : (total : ℕ) (ts : List Tree) (node : TreeNode) (start : ℕ)
    → ((n : ℕ) (x : TreeId) → node ≡ nodes.Constant n x → ⊥) → ((n : ℕ) (ps x : TreeId) → node ≡ nodes.Function n ps x → ⊥)
    → ((ps x : TreeId) → node ≡ nodes.Rule ps x → ⊥) → defined_by total (tree_of ts node start) ≡ None
defines_nothing total ts (nodes.Constant n x) start f g h = absurd (f n x refl)
defines_nothing total ts (nodes.Function n ps x) start f g h = absurd (g n ps x refl)
defines_nothing total ts (nodes.Rule ps x) start f g h = absurd (h ps x refl)
defines_nothing total ts (nodes.List ids) start f g h = of_list ids.items
  where
    of_list : (l : List TreeId) → defined_by total (forest ts l End) ≡ None
    of_list [] = refl
    of_list (x ∷ xs) = refl
defines_nothing total ts node start f g h = refl
