use Rattle.std.proofs.Common.{◌<◌, ◌≤◌, arith, sym, subst}
use Rattle.fv_eval_scopes.specs.declared.value.Meaning.TheVariants as meaning
use Rattle.fv_eval_lookup.specs.declared.shortcuts.Shortcuts.{Shortcuts}
use Rattle.fv_eval_scopes.specs.Environments.{outer_number}
use Rattle.fv_eval_scopes.specs.Outward.{SkipsTo}
use Rattle.fv_eval_lookup.proofs.Lookups.{look_finds, look_stops, look_ends}
use Rattle.fv_eval_lookup.proofs.lemmas.Skipped.{look_begins_here, skips_one, skips_reach, under_way_on}
use Rattle.fv_eval_lookup.proofs.lookup.Definitions.look_up.Goals as goal

pub outward-init : goal.outward-init
outward-init c = look_begins_here c.args.self.now c.args.scopes.now.scopes c.args.shortcuts.now c.args.name c.args.env

pub returns-in-Some-in_scope-clause-kept : goal.returns-in-Some-in_scope-clause-kept
returns-in-Some-in_scope-clause-kept c = λ kept.
    let u = c.outward.invariant kept in (c.keep.ensures c.args.self.now c.args.scopes.now.scopes u.kept.0 u.marked, u.kept.1)

pub returns-in-Some-in_scope-clause-means : goal.returns-in-Some-in_scope-clause-means
returns-in-Some-in_scope-clause-means c = λ kept.
    let u = c.outward.invariant kept in
    look_finds c.in-Some-in_scope.meaning (skips_reach c.args.self.now c.args.scopes.now.scopes c.args.name c.args.env c.outward.at u.whole)
    c.in-Some.ensures c.in-Some-in_scope.ensures

pub returns-then-number-clause-kept : goal.returns-then-number-clause-kept
returns-then-number-clause-kept c = λ kept. (c.outward.invariant kept).kept

pub returns-then-number-clause-means : goal.returns-then-number-clause-means
returns-then-number-clause-means c = λ kept.
    let u = c.outward.invariant kept in
    let far : c.outward.at ≤ c.outer_of-outer.result = omega (arith, c.if-number.true, c.number.ensures, c.number-in-Some.ensures) in
    look_stops meaning.Unknown (skips_reach c.args.self.now c.args.scopes.now.scopes c.args.name c.args.env c.outward.at u.whole)
    c.in-Some.ensures c.outer_of-outer.ensures far

pub outward-preserved : goal.outward-preserved
outward-preserved c = λ kept.
    let p = c.args.self.now in
    let scopes = c.args.scopes.now.scopes in
    let name = c.args.name in
    let at = c.outward.at in
    let u = c.outward.invariant kept in
    let less : outer_number c.in-Some.scope < at = omega (arith, c.if-number.false, c.number.ensures, c.number-in-Some.ensures, c.outer_of-outer.ensures) in
    let one = skips_one p scopes name at c.in-Some.scope (sym c.in-Some.ensures) less
    c.in_default-in_scope.ensures in
    let foot = subst (SkipsTo p scopes name at) (sym c.outer_of-outer.ensures) one in
    let next = c.next-at.ensures.skips u.kept.1 foot (c.outward-direct.ensures p scopes u.kept.0) in
    let marked : Shortcuts = record { slots = c.mark-mark.new.self; around = c.next-at.new.around } in
    under_way_on p scopes c.outward.shortcuts marked name c.args.env c.outward.mark at c.next-at.result c.mark-mark.result u next
    (c.mark-mark.ensures.skips p scopes) (λ k m. (c.mark-mark.ensures.kept p scopes k.0 m, c.next-at.ensures.kept k.1))

pub returns-clause-kept : goal.returns-clause-kept
returns-clause-kept c = λ kept. (c.outward.invariant kept).kept

pub returns-clause-means : goal.returns-clause-means
returns-clause-means c = λ kept.
    let u = c.outward.invariant kept in
    look_ends (skips_reach c.args.self.now c.args.scopes.now.scopes c.args.name c.args.env c.outward.at u.whole) c.in_default.ensures
