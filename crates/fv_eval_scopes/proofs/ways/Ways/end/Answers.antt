use Rattle.std.proofs.Common.{refl, ap, arith, ◌∙◌}
use Rattle.fv_eval_scopes.specs.Environments.{first_number}
use Rattle.fv_eval_scopes.specs.declared.ways.Ways.{Ways}
use Rattle.fv_eval_scopes.proofs.lemmas.Outward.{ends_here}
use Rattle.fv_eval_scopes.proofs.ways.Ways.end.Goals as goal

pub returns-clause-ok : goal.returns-clause-ok
returns-clause-ok c scopes s h =
    let old : Ways = c.args.self.now in
    let new : Ways = record { tries = old.tries; ways = c.push.new.self } in
    ends_here scopes s old new c.first_number-here.result refl c.in_ok-push.ensures.items
    (c.first_number-here.ensures ∙ ap first_number (omega (arith, c.len.ensures, old.ways.ok.0))) h
