use Rattle.std.proofs.Common.{◌∙◌, length, sym, ap}
use Rattle.fv_parse_tree.specs.Arena.{trees}
use Rattle.fv_parse.specs.headline.Definitions.{defined_by}
use Rattle.fv_parse.proofs.DefinitionLists.{defines_nothing}
use Rattle.fv_parse.proofs.definitions.defined_by.Goals as goal

pub returns-in_default : goal.returns-in_default
returns-in_default c =
    let n = c.in_default in
    sym (ap (defined_by (length c.args.tree.now.tokens.tokens)) c.node.ensures.tree
    ∙ defines_nothing (length c.args.tree.now.tokens.tokens) (trees c.args.tree.now.entries) c.node.result.now _ n.not-Constant n.not-Function n.not-Rule)
