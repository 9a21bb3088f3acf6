use Rattle.std.proofs.Common.{◌≡◌, ℕ, subst}
use Rattle.fv_eval_scopes.specs.Environments.{next_number, with_scope}
use Rattle.fv_eval_scopes.specs.declared.value.Scope.TheVariants as scope
use Rattle.fv_eval.proofs.Runs.{starts}
use Rattle.fv_eval.proofs.whole.call_process.Goals as goal

pub returns : goal.returns
returns c =
    let old = c.args.machine.now.scopes in
    let new = c.open.new.self in
    let root = c.root.result in
    let env = c.in_ok-env in
    let opened = subst (λ (o : ℕ). (env.env ≡ next_number old.scopes) × (new ≡ with_scope old (scope.Definitions root o))) c.new.ensures env.ensures.ok in
    starts c.args.tree.now c.args.machine.now new c.push.new.self root c.args.name env.env c.requires.new opened c.in_ok-push.ensures.ok
    c.root.ensures.root c.root.ensures.inside c.requires.named
