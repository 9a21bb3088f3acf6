use Rattle.std.proofs.Common.{◌-◌, ◌/◌, ◌∙◌, arith, sym, subst}
use Rattle.std.proofs.Math.Nat.{mod-le}
use Rattle.fv_parse.specs.Trees.{Parsed}
use Rattle.fv_eval_scopes.specs.declared.scopes.TheConstants.{STRIDE}
use Rattle.fv_eval_scopes.specs.ParameterTries.{AreParameters}
use Rattle.fv_eval_lookup.proofs.Parameters.{environment_at, past_kept}
use Rattle.fv_eval_lookup.proofs.lookup.Definitions.past_parameters.Goals as goal

pub past-requires : goal.past-requires
past-requires c =
    let number = c.number-number in
    let some = c.if-number-eq0.false in omega (arith, some, number.ensures, mod-le (number.result - 1) STRIDE)

pub returns-in-Some-clause-skips : goal.returns-in-Some-clause-skips
returns-in-Some-clause-skips c =
    let p = c.args.self.now in
    let number = c.number-number.result in
    let at = environment_at number c.if-number-eq0.false in
    let known = subst (λ (q : Parsed). AreParameters q c.self.inside.parameters) c.self.view_is c.self.invariant.2 in
    past_kept p c.args.scopes.now.scopes ((number - 1) / STRIDE) c.args.name _ c.args.env c.past.result c.in-Some.kept (sym c.in-Some.ensures.kept)
    (sym c.number-number.ensures ∙ at.0) at.1
    (c.past.ensures.past p known)
