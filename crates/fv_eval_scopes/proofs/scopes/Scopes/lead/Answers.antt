use Rattle.std.proofs.Common.{◌≡◌, subst}
use Rattle.fv_eval_scopes.specs.Environments.{Environments}
use Rattle.fv_eval_scopes.specs.Ways.{PassesTo}
use Rattle.fv_eval_scopes.proofs.scopes.Scopes.lead.Goals as goal

pub returns : goal.returns
returns c =
    subst (λ (e : Environments). PassesTo e.scopes (λ m. m ≡ c.args.key) c.args.env c.lead.result) c.self.view_is
    (c.lead.ensures c.self.inside.scopes.items c.self.invariant.0)
