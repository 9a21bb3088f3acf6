use Rattle.std.proofs.Common.{◌≡◌, ap, ap₂, ◌∙◌, map}
use Rattle.std.proofs.lemmas.List.{with_items_is}
use Rattle.std.specs.Vec.{with_items}
use Rattle.fv_num.specs.headline.Words.{argument}
use Rattle.fv_diagram_runner.specs.History.{numbers_of}
use Rattle.fv_diagram_runner.specs.Runner.{runner_state_of}
use Rattle.fv_diagram_runner.specs.Steps.{registers_of, lists_after}
use Rattle.fv_diagram_runner.proofs.Stands.{next_is, given_is, registers_same}
use Rattle.fv_diagram_runner.proofs.stepper.Stepper.step.Goals as goal

pub returns-clause-stands : goal.returns-clause-stands
returns-clause-stands c d C X s =
    let m = runner_state_of c.self.inside in
    let reserved = with_items_is c.self.inside.lists c.reserve.new.lists (c.reserve.auto.lists ∙ c.deref_mut.ensures.len) in
    let lists : numbers_of c.deref_mut-3.result.now ≡ m.lists =
    ap numbers_of (c.deref_mut-3.ensures.value ∙ reserved) ∙ c.in_ok-reserve.ensures.numbers ∙ ap numbers_of c.deref_mut.ensures.value in
    let regs = registers_same (argument c.args.controls.now) (argument c.args.frame.now) _ _ _ _ _ _ c.deref_mut-2.ensures.value lists
    c.deref-2.ensures.value in
    next_is c.args.self.now m _ d C X c.args.controls.now c.args.frame.now _ _ c.self.view_is c.self.invariant s c.requires.frame
    (with_items_is c.self.inside.cells c.advance.new.cells (c.advance.auto.cells ∙ c.deref_mut-2.ensures.len)
    ∙ c.advance.ensures.cells ∙ ap₂ (λ r p. map (argument r) p) regs c.deref-3.ensures.value)
    (ap numbers_of (with_items_is (with_items c.self.inside.lists c.reserve.new.lists) c.advance.new.lists (c.advance.auto.lists ∙ c.deref_mut-3.ensures.len))
    ∙ c.advance.ensures.lists ∙ ap₂ (λ r a. lists_after (argument r) a (numbers_of c.deref_mut-3.result.now)) regs c.deref-4.ensures.value
    ∙ ap (lists_after (argument (registers_of m c.args.controls.now c.args.frame.now)) m.changes) lists)

pub returns-clause-answer : goal.returns-clause-answer
returns-clause-answer c d C X e s =
    let m = runner_state_of c.self.inside in
    let reserved = with_items_is c.self.inside.lists c.reserve.new.lists (c.reserve.auto.lists ∙ c.deref_mut.ensures.len) in
    let lists : numbers_of c.deref_mut-3.result.now ≡ m.lists =
    ap numbers_of (c.deref_mut-3.ensures.value ∙ reserved) ∙ c.in_ok-reserve.ensures.numbers ∙ ap numbers_of c.deref_mut.ensures.value in
    let regs = registers_same (argument c.args.controls.now) (argument c.args.frame.now) _ _ _ _ _ _ c.deref_mut-2.ensures.value lists
    c.deref-2.ensures.value in
    given_is c.args.self.now m _ d C X e c.args.controls.now c.args.frame.now _ c.self.view_is c.self.invariant s c.requires.frame
    (c.advance.ensures.out ∙ ap₂ (λ r p. map (argument r) p) regs c.deref-5.ensures.value)
