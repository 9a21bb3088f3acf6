use Rattle.std.proofs.Common.{refl, ap, arith, ◌∙◌}
use Rattle.fv_eval_scopes.specs.Environments.{first_number}
use Rattle.std.proofs.lemmas.Result.{err_from_is_err_and}
use Rattle.fv_eval_scopes.specs.declared.ways.Way.{Way}
use Rattle.fv_eval_scopes.specs.declared.ways.Ways.{Ways}
use Rattle.fv_eval_scopes.proofs.lemmas.Outward.{IsKept, ways_on, keeps_on}
use Rattle.fv_eval_scopes.proofs.ways.Ways.go_on.Goals as goal

pub returns-in_err-root-clause-err : goal.returns-in_err-root-clause-err
returns-in_err-root-clause-err c =
    let old : Ways = c.args.self.now in
    let new : Ways = record { tries = c.with.new.self; ways = old.ways } in
    let p = err_from_is_err_and c.from_residual.result c.from_residual.ensures.1 in
    rw p.1 (λ scopes h. ways_on scopes old new c.in_err-root.ensures.grown refl h)

pub returns-in_err-push-clause-err : goal.returns-in_err-push-clause-err
returns-in_err-push-clause-err c =
    let old : Ways = c.args.self.now in
    let new : Ways = record { tries = c.with.new.self; ways = c.push.new.self } in
    let p = err_from_is_err_and c.from_residual-in_err-push.result c.from_residual-in_err-push.ensures.1 in
    rw p.1 (λ scopes h. ways_on scopes old new c.in_ok-root.ensures.grown c.in_err-push.ensures.items h)

pub returns-clause-ok : goal.returns-clause-ok
returns-clause-ok c scopes s key outer below h =
    let old : Ways = c.args.self.now in
    let new : Ways = record { tries = c.with.new.self; ways = c.push.new.self } in
    let way : Way = c.outward-way.result in
    let out = c.outward-way.ensures scopes h in
    let kept : IsKept scopes s c.args.key c.args.outer = record { has = key; around = outer; below = below } in
    keeps_on scopes s old new c.args.key c.args.outer c.number.result c.in_ok-root.root way c.in_ok-root.ensures.grown
    c.in_ok-push.ensures.items (c.number.ensures ∙ c.first_number-here.ensures ∙ ap first_number (omega (arith, c.len.ensures, old.ways.ok.0))) kept out
    (c.in_ok-root.ensures.with out.there) h
