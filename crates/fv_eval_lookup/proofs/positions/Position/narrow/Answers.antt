use Rattle.std.proofs.Common.{◌≡◌, IfSome, List, Some, subst}
use Rattle.fv_rules.specs.headline.Values.{Value}
use Rattle.fv_eval_scopes.specs.Shows.{World, ShowsValues}
use Rattle.fv_eval_lookup.specs.Positions.{key_at}
use Rattle.fv_eval_lookup.proofs.Wanting.{key_narrows}
use Rattle.fv_eval_lookup.proofs.positions.Position.narrow.Goals as goal

pub returns-clause-narrows : goal.returns-clause-narrows
returns-clause-narrows c = λ all knows.
    let x = c.args.self.now.path in
    let us = c.args.subjects.now.values.now in
    let a = c.args.diagrams.now in
    key_narrows all x us a c.in-Some.key c.args.rules.now c.leave.new.rules
    (subst (λ o. IfSome o (λ k. (w : World) (vs : List Value) → w.diagrams ≡ a → ShowsValues w us vs → key_at x vs ≡ Some k)) c.in-Some.is
    c.in_ok-key.ensures.key)
    (λ j r got may was. c.in_ok-leave.ensures all j r knows got may was)
