use Rattle.std.proofs.Common.{sym, ap, ◌∙◌}
use Rattle.fv_parse.specs.Arena.{trees}
use Rattle.fv_eval_scopes.specs.Shows.{body_in}
use Rattle.fv_eval.proofs.Others.{own_body}
use Rattle.fv_eval.proofs.names.body_of.Goals as goal

pub returns-in_default : goal.returns-in_default
returns-in_default c =
    let t = c.node.ensures.tree in
    record {
      inside = c.requires;
      body = t
          ∙ own_body (trees c.args.tree.now.entries) c.node.result.now _ c.in_default.not-Abstraction c.in_default.not-Function ∙ ap body_in (sym t);
    }
