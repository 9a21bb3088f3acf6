use Rattle.std.proofs.Common.{◌∙◌, Some, ap, subst}
use Rattle.fv_eval_scopes.specs.Environments.{nth_scope, outer_number}
use Rattle.fv_eval_lookup.specs.Around.{IsRoot}
use Rattle.fv_eval_lookup.proofs.Arounds.{nth_bound, nth_definitions, root_bound, root_listed, root_on, root_slotted}
use Rattle.fv_eval_lookup.proofs.around.Around.root_of.Goals as goal

pub returns-in-Bound-clause-root : goal.returns-in-Bound-clause-root
returns-in-Bound-clause-root c = λ scopes k before env h is.
    let p = c.args.definitions.now in
    let forks = c.args.self.now.tries in
    let outer = c.outer_of.ensures ∙ ap outer_number c.in-Bound.is in
    let same = ap (nth_scope k before) c.in-Bound.is ∙ nth_bound k before c.in-Bound.name c.in-Bound.value c.in-Bound.outer in
    root_bound p scopes forks env c.in-Bound.outer c.in_ok-around.around c.in-Bound.name c.in-Bound.value (is ∙ ap Some same)
    (subst (λ o. IsRoot p scopes forks o c.in_ok-around.around) outer (c.in_ok-around.ensures p scopes h))

pub returns-in-Ok-clause-kept : goal.returns-in-Ok-clause-kept
returns-in-Ok-clause-kept c = λ scopes h.
    c.in-Ok.ensures.kept scopes h (c.in_ok-around.ensures c.args.definitions.now scopes h).there

pub returns-in-Ok-clause-root : goal.returns-in-Ok-clause-root
returns-in-Ok-clause-root c = λ scopes k before env h is.
    let p = c.args.definitions.now in
    let old = c.args.self.now.tries in
    let new = c.nest.new.self.tries in
    let around = c.in_ok-around.around in
    let at = c.in_ok-around.ensures p scopes h in
    let outer = c.outer_of.ensures ∙ ap outer_number c.in-Definitions.is in
    let same = ap (nth_scope k before) c.in-Definitions.is ∙ nth_definitions k before c.in-Definitions.list c.in-Definitions.outer in
    root_listed p scopes new env c.in-Definitions.list c.in-Definitions.outer around c.in-Ok.root (is ∙ ap Some same)
    (root_on p scopes old new c.in-Definitions.outer around c.in-Ok.ensures.grown (subst (λ o. IsRoot p scopes old o around) outer at))
    (c.in-Ok.ensures.nested scopes h at.there)

pub returns-in-Err-clause-kept : goal.returns-in-Err-clause-kept
returns-in-Err-clause-kept c = λ scopes h.
    c.in-Err.ensures.kept scopes h (c.in_ok-around.ensures c.args.definitions.now scopes h).there

pub returns-in-Slots-clause-root : goal.returns-in-Slots-clause-root
returns-in-Slots-clause-root c = λ scopes k before env h is.
    let p = c.args.definitions.now in
    let f = c.in-Slots in
    let there = (c.in_ok-around.ensures p scopes h).there in
    root_slotted p scopes c.args.self.now.tries k before env f.node f.parameter f.slot f.outer c.in_ok-around.around
    (is ∙ ap Some (ap (nth_scope k before) f.is)) there
