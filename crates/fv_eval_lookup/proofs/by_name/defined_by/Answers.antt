use Rattle.std.proofs.Common.{ap, sym, ◌∙◌}
use Rattle.fv_parse.specs.Arena.{trees}
use Rattle.fv_parse.specs.Trees.{start_in}
use Rattle.fv_eval_lookup.specs.ByName.{defined_name, called}
use Rattle.fv_eval_lookup.proofs.Named.{other_form}
use Rattle.fv_eval_lookup.proofs.by_name.defined_by.Goals as goal

pub returns-in_default : goal.returns-in_default
returns-in_default c =
    let p = c.args.tree.now in
    let other = c.in_default in
    let none = other_form p.tokens (trees p.entries) c.node.result.now (start_in p c.args.id) other.not-Constant other.not-Function in
    sym (ap (λ t. called c.args.id (defined_name p.tokens t)) c.node.ensures.tree ∙ ap (called c.args.id) none)
