use Rattle.std.proofs.Common.{inl, inr, refl, sym, subst}
use Rattle.fv_eval_scopes.specs.declared.value.Scope as code_scope
use Rattle.fv_eval_scopes.specs.ParameterTries.{Passes}
use Rattle.fv_eval_scopes.proofs.parameter_tries.ParameterTries.past.Goals as goal

pub returns-in-Some-clause-past : goal.returns-in-Some-clause-past
returns-in-Some-clause-past c = λ p h.
    subst (λ (s : code_scope.Scope). Passes p s c.args.name c.args.k c.args.env c.passed.result) (sym c.in-Slots.is)
    (inr (c.in-Some.end, c.in-Some.ensures p h, c.passed.ensures.past))

pub returns-in-None-clause-past : goal.returns-in-None-clause-past
returns-in-None-clause-past c = λ p h.
    subst (λ (s : code_scope.Scope). Passes p s c.args.name c.args.k c.args.env c.args.env) (sym c.in-Slots.is) (inl refl)
