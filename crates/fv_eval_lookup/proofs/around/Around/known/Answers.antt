use Rattle.std.proofs.Common.{◌∙◌, Some, ap, sym, subst}
use Rattle.fv_eval_lookup.specs.Around.{IsNested}
use Rattle.fv_eval_lookup.proofs.around.Around.known.Goals as goal

pub returns-then-nested-around : goal.returns-then-nested-around
returns-then-nested-around c = λ p scopes h.
    let forks = c.args.self.now.tries in
    let x = c.in-Some-Some.nested in
    let is = h.nested c.args.list x (sym c.last.ensures ∙ c.in-Some-Some.is ∙ ap Some c.in-Some-Some.field-0-is) in
    subst (λ k. IsNested p forks c.args.list k x.root) c.if-nested-around.true
    (subst (λ k. IsNested p forks k x.around x.root) (c.if-nested-number.true ∙ c.number.ensures) is)
