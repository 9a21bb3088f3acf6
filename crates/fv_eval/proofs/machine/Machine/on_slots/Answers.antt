use Rattle.std.proofs.Common.{◌≡◌, ◌-◌, arith}
use Rattle.fv_eval_scopes.specs.declared.value.Scope.TheVariants as scope
use Rattle.fv_eval.proofs.Slotted.{no_slots, none_taken, slots_shown, slots_taken}
use Rattle.fv_eval.proofs.machine.Machine.on_slots.Goals as goal

pub returns-then-left-eq0-clause-slots : goal.returns-then-left-eq0-clause-slots
returns-then-left-eq0-clause-slots c = λ p.
    let none : c.args.count - c.args.bound ≡ 0 = omega (arith, c.saturating_sub-left.ensures, c.if-left-eq0.true) in none_taken p c.args.self.now _ none

pub returns-then-left-eq0-clause-env : goal.returns-then-left-eq0-clause-env
returns-then-left-eq0-clause-env c = λ p E inside all h.
    no_slots p c.args.self.now c.args.node c.args.bound c.args.env c.args.count c.saturating_sub-left.result E c.saturating_sub-left.ensures
    c.if-left-eq0.true all h

pub returns-clause-slots : goal.returns-clause-slots
returns-clause-slots c = λ p.
    let inner = c.in_ok-inner.ensures.ok in
    let more = c.in-Some.ensures.1 in
    slots_taken p c.args.self.now c.bind_slots.new.self (scope.Slots c.args.node c.args.bound c.args.self.now.slot c.args.env)
    (c.args.count - c.args.bound) c.in-Some.next inner.2 (omega (arith, more, c.saturating_sub-left.ensures))

pub returns-clause-env : goal.returns-clause-env
returns-clause-env c = λ p E inside all h.
    let inner = c.in_ok-inner.ensures.ok in
    let left = c.saturating_sub-left.result in
    slots_shown p c.args.self.now c.bind_slots.new.self c.args.node c.args.bound c.args.env c.args.count left c.in_ok-inner.inner
    c.in-Some.next E inner.2 inside c.saturating_sub-left.ensures (omega (arith, c.if-left-eq0.false)) inner.1 inner.0 all h
