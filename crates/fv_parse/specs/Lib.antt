pub mod headline
pub mod Trees
pub mod Outcomes
pub mod Laws
pub mod inner
-- what it hands on of crates below
pub use Rattle.fv_parse_tree.specs.declared.node.TreeId
pub use Rattle.fv_parse_grammar.specs.headline.Tree
pub use Rattle.fv_lex.specs.headline.Token
pub use Rattle.fv_parse_tree.specs.Arena
pub use Rattle.fv_parse_tree.specs.declared.node.TreeNode
