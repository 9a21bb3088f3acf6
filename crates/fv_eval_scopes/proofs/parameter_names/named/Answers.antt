use Rattle.std.proofs.Common.{sym, ap, ◌∙◌}
use Rattle.std.proofs.lemmas.Option.{none-some}
use Rattle.fv_parse.specs.Arena.{trees}
use Rattle.fv_eval_scopes.specs.Parameters.{name_of}
use Rattle.fv_eval_scopes.proofs.lemmas.Binders.{no_name}
use Rattle.fv_eval_scopes.proofs.parameter_names.named.Goals as goal

pub returns-in_default : goal.returns-in_default
returns-in_default c =
    let l = c.args.tree.now.tokens in
    λ x e. none-some x (sym (ap (name_of l) c.node.ensures.tree ∙ no_name l (trees c.args.tree.now.entries) c.node.result.now _ c.in_default.not-Named) ∙ e)
