use Rattle.std.proofs.Common.{◌≡◌, ◌∙◌, ◌-◌, ◌/◌, ap}
use Rattle.std.specs.Prelude.{slice_get}
use Rattle.fv_eval_scopes.specs.declared.scopes.TheConstants.{STRIDE}
use Rattle.fv_eval_lookup.proofs.Arounds.{root_read}
use Rattle.fv_eval_lookup.proofs.around.Around.root.Goals as goal

pub returns : goal.returns
returns c = λ p scopes h.
    let a = c.args.self.now in
    let is = c.number-number.ensures in
    let some : c.args.env ≡ 0 → ⊥ = λ none. c.if-number-eq0.false (is ∙ none) in
    root_read p scopes a c.args.env c.root_at.result some (c.root_at.ensures ∙ ap (λ n. slice_get a.roots.items ((n - 1) / STRIDE)) is) h
