use Rattle.std.proofs.Common.{◌≡◌, ◌+◌, ◌-◌, ◌<◌, ◌^◌, Ok, sym, ap, subst, arith, rules}
use Rattle.fv_rules.specs.headline.Steps.{State}
use Rattle.fv_parse.specs.Trees.{Parsed}
use Rattle.fv_eval_scopes.specs.declared.value.Value as code_value
use Rattle.fv_eval.specs.declared.continuation.Focus.TheVariants as focus
use Rattle.fv_eval.proofs.Arrived.{Turns}
use Rattle.fv_eval.proofs.Slotted.{abstraction_turns}
use Rattle.fv_eval.proofs.machine.Machine.turn.Goals as goal

pub returns-in_ok-push-in-Abstraction-2 : goal.returns-in_ok-push-in-Abstraction-2
returns-in_ok-push-in-Abstraction-2 c =
    let q = c.tree-tree.result.now in
    let m = c.args.self.now in
    let m1 = c.on_slots.new.self in
    let g = c.args.continuation in
    let f = c.in-Abstraction in
    let inner = c.in_ok-inner-in-Abstraction in
    let n = record m1 { continuations = c.push-in-Abstraction.new.self } in
    let r = Ok (focus.Visit c.body_of.result inner.inner) in
    let taken : m1.slot ≡ m.slot + (c.parameters-count.result - f.bound) = ap (λ (t : State). t.slot) (inner.ensures.slots q).state in
    let slots : m1.slot - m.slot ≡ c.parameters-count.result - f.bound = omega (arith, taken) in
    let numbered : m.slot + (m1.slot - m.slot) < 2 ^ 64 = (let end : m1.slot < 2 ^ 64 = search rules in omega (arith, taken, end)) in
    let done = abstraction_turns q m m1
    c.push.new.self c.push-in-Abstraction.new.self g f.node f.bound f.env c.parameters-count.result inner.inner c.body_of.result (m1.slot - m.slot)
    c.parameters-count.ensures (inner.ensures.slots q)
    (inner.ensures.env q) c.in_ok-push-in-Abstraction.ensures.ok c.in_ok-push-in-Abstraction-2.ensures.ok slots numbered
    c.body_of.ensures.inside c.body_of.ensures.body in
    subst (λ (x : Parsed). Turns x m n r g c.args.value) c.tree-tree.ensures (subst (λ (u : code_value.Value). Turns q m n r g u) (sym f.is) done)

pub overflow_sub-slots : goal.overflow_sub-slots
overflow_sub-slots c =
    let m = c.args.self.now in
    let m1 = c.on_slots.new.self in
    let left = c.parameters-count.result - c.in-Abstraction.bound in
    let taken : m1.slot ≡ m.slot + left = ap (λ (t : State). t.slot) (c.in_ok-inner-in-Abstraction.ensures.slots c.tree-tree.result.now).state in
    omega (arith, taken)
