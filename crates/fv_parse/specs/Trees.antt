-- What calls say beside `headline/Trees`: a tree, as contracts see it: the tokens, the nodes and the number of the outermost list.
use Rattle.std.specs.Prelude.{◌≡◌, ℕ, suc, ◌<◌, if◌then◌else◌, List, [], ◌∷◌, ◌++◌, length, map, slice_index}
use Rattle.std.specs.Str.{bytes_eq}
use Rattle.fv_lex.specs.headline.Token.{Lexed, texts_of}
use Rattle.fv_parse_grammar.specs.headline.Tree.{Tree as Spelled}
use Rattle.fv_parse_tree.specs.declared.node.TreeId.{TreeId}
use Rattle.fv_parse_tree.specs.declared.node.TreeNode.{TreeNode}
use Rattle.fv_parse_tree.specs.declared.arena.Entry.{Entry}
use Rattle.fv_parse_tree.specs.Arena.{tree_at, tree_of, trees, AreBuilt}
use Rattle.fv_parse.specs.headline.Trees.{text_of}

pub record Parsed : Type 0 where
  pub tokens : Lexed
  pub entries : List Entry
  pub root : TreeId

-- how many nodes there are: their numbers are those below it (this project's profile)
abbrev pub size_of : Parsed → ℕ
size_of p = length p.entries

-- the tree with this number (this project's profile)
abbrev pub tree_in : Parsed → TreeId → Spelled
tree_in p id = tree_at (trees p.entries) id

-- the whole program (this project's profile)
abbrev pub program_of : Parsed → Spelled
program_of p = tree_in p p.root

-- the tree of a node, by those of its parts, and how many tokens there are from its first one on (this project's profile)
abbrev pub node_tree : Parsed → TreeNode → ℕ → Spelled
node_tree p node start = tree_of (trees p.entries) node start

-- how many tokens there are from a node's first one on (this project's profile)
abbrev pub start_in : Parsed → TreeId → ℕ
start_in p id = slice_index (map (λ e. e.start) p.entries) id

-- the number of the first token with these bytes, or how many tokens there are (this project's profile)
abbrev pub first_with : List (List ℕ) → List ℕ → ℕ
first_with [] text = 0
first_with (t ∷ ts) text = if bytes_eq t text then 0 else suc (first_with ts text)

-- The canonical number of a token: that of the first one with its bytes (this project's profile).
abbrev pub first_named : Lexed → ℕ → ℕ
first_named l n = first_with (texts_of l.tokens) (text_of l n)

-- the canonical numbers of the tokens, and after them that of no bytes (this project's profile)
abbrev pub canonical_of : Lexed → List ℕ
canonical_of l = map (first_with (texts_of l.tokens)) (texts_of l.tokens ++ [] ∷ [])

-- What holds of a tree: each node is at its place, the root is one, and the canonical numbers are known.
pub record IsHeld (l : Lexed) (entries : List Entry) (root : TreeId) (names : List ℕ) : Type 0 where
  pub built : AreBuilt entries
  pub inside : root < length entries
  pub numbers : names ≡ canonical_of l
