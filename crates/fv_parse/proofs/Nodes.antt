-- Nodes and their trees.
use Rattle.std.proofs.Common.{◌≡◌, ℕ, ◌<◌, List, [], ◌∷◌, map, get_or, Vec, refl, sym, ap, ap₂, subst, ◌∙◌}
use Rattle.std.proofs.lemmas.List.{get_or-map}
use Rattle.std.specs.declared.alloc.Global.{Global}
use Rattle.fv_parse_tree.specs.declared.node.TreeId.{TreeId}
use Rattle.fv_parse_tree.specs.declared.node.TreeNode.{TreeNode}
use Rattle.fv_parse_tree.specs.declared.node.TreeNode.TheVariants as nodes
use Rattle.fv_parse_grammar.specs.headline.Tree.{Tree, End, items, start_of}
use Rattle.fv_parse_tree.specs.declared.arena.Entry.{Entry}
use Rattle.fv_parse_tree.specs.Arena.{tree_at, tree_of, forest, IsBuilt, AreBuilt}
use Rattle.fv_parse.specs.headline.Trees.{PartsBelow}
use Rattle.fv_parse.specs.Trees.{Parsed, size_of, tree_in, node_tree, start_in}

-- the node is no list
abbrev pub IsForm : TreeNode → Type 0
IsForm node = (ids : Vec TreeId Global) → node ≡ nodes.List ids → ⊥

pub items_forest : (ts : List Tree) (ids : List TreeId) → items (forest ts ids End) ≡ map (tree_at ts) ids
items_forest ts [] = refl
items_forest ts (id ∷ ids) = ap (λ l. tree_at ts id ∷ l) (items_forest ts ids)

pub items_form : (ts : List Tree) (node : TreeNode) (start : ℕ) → IsForm node → items (tree_of ts node start) ≡ []
items_form ts (nodes.List ids) start other = absurd (other ids refl)
items_form ts node start other = refl

pub start_form : (ts : List Tree) (node : TreeNode) (start : ℕ) → IsForm node → start_of (tree_of ts node start) ≡ start
start_form ts (nodes.List ids) start other = absurd (other ids refl)
start_form ts node start other = refl

-- what is known of an entry that was read
pub record IsEntry (p : Parsed) (id : TreeId) (e : Entry) : Type 0 where
  pub parts : PartsBelow id e.node
  pub tree : tree_in p id ≡ node_tree p e.node e.start
  pub start : e.start ≡ start_in p id

pub entry_is : (p : Parsed) (es : List Entry) (id number : TreeId) (e : Entry)
    → AreBuilt es → es ≡ p.entries → number ≡ id → id < size_of p → e ≡ get_or es number e → IsEntry p id e
entry_is p es id number e built same is h read =
    let at : e ≡ get_or p.entries id e = read ∙ ap₂ (λ l n. get_or l n e) same is in
    let b = subst (λ d. IsBuilt p.entries id d) (sym at) (subst AreBuilt same built id e h) in
    record {
      parts = b.parts;
      tree = b.tree;
      start = ap (λ d. d.start) at ∙ sym (get_or-map (λ (d : Entry). d.start) p.entries id e 0 h);
    }
