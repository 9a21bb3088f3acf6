-- The definitions of a list of a tree, by the canonical numbers of their names (this project's profile).
use Rattle.std.specs.Prelude.{◌≡◌, ℕ, ◌<◌, Bool, nat_eq, List, length, map, filter}
use Rattle.std.specs.Prelude.{filter_map, All, Option, Some, None, slice_index_or}
use Rattle.fv_parse.specs.Token.{Lexed}
use Rattle.fv_parse_grammar.specs.headline.Tree.{Tree, Constant, Function, items}
use Rattle.fv_parse.specs.headline.Trees.{text_of}
use Rattle.fv_parse.specs.Trees.{Parsed, size_of, tree_in, first_named}
use Rattle.fv_parse.specs.TreeId.{TreeId}
use Rattle.fv_eval_lookup.specs.declared.by_name.Defined.{Defined}
use Rattle.fv_rules.specs.headline.Values.{is_of}

-- a definition is of the name with this canonical number
abbrev pub is_called : ℕ → Defined → Bool
is_called name d = nat_eq d.name name

-- the canonical number of what a tree defines
abbrev pub defined_name : Lexed → Tree → Option ℕ
defined_name l (Constant s n x) = Some (first_named l n)
defined_name l (Function s n ps x) = Some (first_named l n)
defined_name l x = None

-- a node with the name that it defines
abbrev pub called : TreeId → Option ℕ → Option Defined
called id None = None
called id (Some n) = Some (record { name = n; node = id })

-- the definitions among nodes, in order
abbrev pub defined_in : Parsed → List TreeId → List Defined
defined_in p ids = filter_map (λ id. called id (defined_name p.tokens (tree_in p id))) ids

-- What holds of the definitions of a list that were sorted: those of each name are the list's, in their order.
pub record AreDefined (p : Parsed) (list : ℕ) (ds : List Defined) : Type 0 where
  pub found : (n : ℕ) → map (λ (d : Defined). tree_in p d.node) (filter (is_called (first_named p.tokens n)) ds)
      ≡ filter (is_of p.tokens (text_of p.tokens n)) (items (tree_in p list))
  pub there : All (λ (d : Defined). d.node < size_of p) ds

-- the sorted definitions of each node of a tree
pub record AreIndexed (p : Parsed) (lists : List (List Defined)) : Type 0 where
  pub whole : length lists ≡ size_of p
  pub each : (i : ℕ) (d : List Defined) → i < length lists → AreDefined p i (slice_index_or lists i d)
