use Rattle.std.proofs.Common.{refl, sym, subst}
use Rattle.fv_eval_lookup.specs.declared.around.Around.{Around}
use Rattle.fv_eval_lookup.specs.Around.{IsNested}
use Rattle.fv_eval_lookup.proofs.Arounds.{around_on, nested_all_on}
use Rattle.fv_eval_lookup.proofs.around.Around.nest.Goals as goal

pub returns-in_err-root-clause-kept : goal.returns-in_err-root-clause-kept
returns-in_err-root-clause-kept c = λ scopes h there.
    let p = c.args.definitions.now in
    let old : Around = c.args.self.now in
    let new : Around = record { tries = c.with_names.new.tries; roots = old.roots; nested = old.nested } in
    let grown = c.in_err-root.ensures.grown in
    around_on p scopes old new grown refl (nested_all_on p old.tries new.tries old.nested.items grown h.nested) h

pub returns-in_err-remember-clause-kept : goal.returns-in_err-remember-clause-kept
returns-in_err-remember-clause-kept c = λ scopes h there.
    let p = c.args.definitions.now in
    let old : Around = c.args.self.now in
    let new : Around = record { tries = c.with_names.new.tries; roots = old.roots; nested = c.remember.new.all } in
    let grown = c.in_ok-root.ensures.grown in
    let one = subst (λ k. IsNested p new.tries k c.args.around c.in_ok-root.root) (sym c.number.ensures) (c.in_ok-root.ensures.nested there) in
    around_on p scopes old new grown refl
    (c.in_err-remember.ensures p new.tries (nested_all_on p old.tries new.tries old.nested.items grown h.nested) one) h

pub returns-clause-kept : goal.returns-clause-kept
returns-clause-kept c = λ scopes h there.
    let p = c.args.definitions.now in
    let old : Around = c.args.self.now in
    let new : Around = record { tries = c.with_names.new.tries; roots = old.roots; nested = c.remember.new.all } in
    let grown = c.in_ok-root.ensures.grown in
    let one = subst (λ k. IsNested p new.tries k c.args.around c.in_ok-root.root) (sym c.number.ensures) (c.in_ok-root.ensures.nested there) in
    around_on p scopes old new grown refl
    (c.in_ok-remember.ensures p new.tries (nested_all_on p old.tries new.tries old.nested.items grown h.nested) one) h
