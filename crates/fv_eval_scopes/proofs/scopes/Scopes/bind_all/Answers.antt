use Rattle.std.proofs.Common.{sym, subst}
use Rattle.fv_eval_scopes.specs.Environments.{Environments}
use Rattle.fv_eval_scopes.specs.Shows.{Grows}
use Rattle.fv_eval_scopes.proofs.Scoped.{BindsNext, with_scopes, binds_begin, binds_go_on}
use Rattle.fv_eval_scopes.proofs.scopes.Scopes.bind_all.Goals as goal

pub loop-binding-init : goal.loop-binding-init
loop-binding-init c = binds_begin c.args.self.now c.args.outer

pub returns-in_err-env-clause-grows : goal.returns-in_err-env-clause-grows
returns-in_err-env-clause-grows c =
    λ w e. subst (λ (n : Environments). Grows w (with_scopes w n.scopes)) (sym c.in_err-env.ensures.err) (c.loop-binding.invariant.grows w e)

pub loop-binding-preserved : goal.loop-binding-preserved
loop-binding-preserved c =
    let now = c.loop-binding in
    let env = c.in_ok-env in
    let next : BindsNext now.self c.bind.new.self now.env env.env now.binding-index c.args.bindings.now c.binding-item.result =
    record { inside = c.loop-binding-test.true; here = c.binding-item.is; number = env.ensures.ok.0; is = env.ensures.ok.1 } in
    binds_go_on now.invariant next
