use Rattle.std.proofs.Common.{sym, ap, ◌∙◌}
use Rattle.fv_parse.specs.Arena.{trees}
use Rattle.fv_eval.specs.inner.Names.{defined_by}
use Rattle.fv_eval.proofs.Others.{no_definition}
use Rattle.fv_eval.proofs.whole.defined_by.Goals as goal

pub returns-in_default : goal.returns-in_default
returns-in_default c =
    sym (ap defined_by c.node.ensures.tree
    ∙ no_definition (trees c.args.tree.now.entries) c.node.result.now _ c.in_default.not-Constant c.in_default.not-Function)
