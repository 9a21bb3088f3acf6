use Rattle.std.proofs.Common.{◌≡◌, ◌∙◌, ◌-◌, ◌<◌, length, vec_len, Some, refl, sym, ap, subst, arith}
use Rattle.std.specs.Prelude.{slice_get}
use Rattle.std.proofs.lemmas.Option.{slice_get_within}
use Rattle.fv_eval_lookup.specs.declared.around.Around.{Around}
use Rattle.fv_eval_scopes.proofs.lemmas.Forks.{grown_none}
use Rattle.fv_eval_lookup.proofs.Arounds.{around_on, root_more, root_of_all}
use Rattle.fv_eval_lookup.proofs.around.Around.follow.Goals as goal

pub returns-in_default-root_of : goal.returns-in_default-root_of
returns-in_default-root_of c = λ h. c.in_default-root_of.ensures.kept c.args.scopes.now.scopes (c.following.invariant h)

pub returns-in-Err : goal.returns-in-Err
returns-in-Err c = λ h.
    let p = c.args.definitions.now in
    let scopes = c.args.scopes.now.scopes in
    let old : Around = c.root_of.new.self in
    let new : Around = record { tries = old.tries; roots = c.push.new.self; nested = old.nested } in
    let k = c.in-Some-root_of.ensures.kept scopes (c.following.invariant h) in
    around_on p scopes old new (grown_none old.tries) c.in-Err.ensures.items k.nested k

pub following-smaller : goal.following-smaller
following-smaller c =
    let scopes = c.args.scopes.now.scopes in
    let roots = c.following.self.roots in
    let within = slice_get_within scopes c.len.result c.in-Some.scope (sym c.kept.ensures.kept ∙ c.in-Some.is) in
    let less : length scopes - vec_len c.push.new.self < length scopes - vec_len roots =
    omega (arith, within, c.len.ensures, c.in-Ok.ensures.len, ap vec_len c.in-Some-root_of.ensures.same) in
    less

pub following-preserved : goal.following-preserved
following-preserved c = λ h.
    let p = c.args.definitions.now in
    let scopes = c.args.scopes.now.scopes in
    let before : Around = c.following.self in
    let old : Around = c.root_of.new.self in
    let new : Around = record { tries = old.tries; roots = c.push.new.self; nested = old.nested } in
    let k = c.in-Some-root_of.ensures.kept scopes (c.following.invariant h) in
    let root = c.in-Some-root_of.root in
    let same = c.in-Some-root_of.ensures.same in
    let place : c.len.result ≡ length old.roots.items = omega (arith, c.len.ensures, before.roots.ok.0, ap (λ v. length v.items) same) in
    let is : slice_get scopes (length old.roots.items) ≡ Some c.in-Some.scope =
    subst (λ n. slice_get scopes n ≡ Some c.in-Some.scope) place (sym c.kept.ensures.kept ∙ c.in-Some.is) in
    let here = root_of_all p scopes old.tries (length old.roots.items) root c.in-Some.scope is
    (λ j b env e. c.in-Some-root_of.ensures.root scopes j b env (c.following.invariant h) e) in
    root_more p scopes old new root refl refl c.in-Ok.ensures.items here k
