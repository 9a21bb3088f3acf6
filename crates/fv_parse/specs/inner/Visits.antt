-- What is left to visit of patterns.
use Rattle.std.specs.Prelude.{List, [], ◌∷◌}
use Rattle.fv_parse_tree.specs.declared.node.TreeId.{TreeId}
use Rattle.fv_parse_tree.specs.declared.node.TreeNode.{TreeNode}
use Rattle.fv_parse_tree.specs.declared.node.TreeNode.TheVariants as nodes
use Rattle.fv_parse.specs.declared.definitions.Defined.{Defined}
use Rattle.fv_parse.specs.headline.Definitions.{as_name}

-- the parts of a pattern's node that are left to visit (this project's profile)
abbrev pub parts_left : TreeNode → List TreeId
parts_left (nodes.Binary o x y) = x ∷ y ∷ []
parts_left (nodes.List ids) = ids.items
parts_left node = []

-- the name that a pattern's node is (this project's profile)
abbrev pub own_names : TreeNode → List Defined
own_names (nodes.Named n) = as_name n ∷ []
own_names node = []
