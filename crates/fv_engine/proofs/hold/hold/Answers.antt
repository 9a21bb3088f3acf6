use Rattle.std.proofs.Common.{◌≡◌, ◌∙◌, arith, List, [], length, false, pos, All, refl, sym, subst}
use Rattle.fv_signal.specs.Words.{argument}
use Rattle.fv_loopcode.specs.declared.step.Step.{Step}
use Rattle.fv_loopcode.specs.headline.State.{State}
use Rattle.fv_loopcode.specs.headline.Code.{registers_after}
use Rattle.fv_loopcode.specs.Code.{IsWithin, MayRun, frame_of}
use Rattle.fv_split_plan.specs.headline.Plans.{tables_alone}
use Rattle.fv_engine.specs.inner.OneLane.{one_of_each}
use Rattle.fv_engine.proofs.Names.{names_within}
use Rattle.fv_engine.proofs.Tables.{may_hold}
use Rattle.fv_engine.proofs.hold.hold.Goals as goal

pub run-requires-clause-within : goal.run-requires-clause-within
run-requires-clause-within c =
    subst (λ (steps : List Step). All (IsWithin (length c.args.controls.now) 0) steps) (sym (c.steps-code.ensures.steps ∙ c.held.ensures))
    (names_within (length c.args.controls.now) 0 c.args.plan.now.held c.requires.controls (λ i n. absurd (c.requires.code.inputs i n)))

pub run-requires-clause-may : goal.run-requires-clause-may
run-requires-clause-may c =
    let p = c.args.plan.now in let held = argument c.args.controls.now in let frame = frame_of [] 0 in
    let state : State = one_of_each p.tables false (pos 0) (pos 0) in
    let law = c.still_code_is_free.ensures p.held held frame 0 1 state (tables_alone p.tables) c.requires.code.still refl in
    subst (λ (steps : List Step). MayRun steps held frame 0 1 state) (sym (c.steps-code.ensures.steps ∙ c.held.ensures))
    (law.0 (may_hold p held frame c.requires.code.still c.requires.reads))

pub returns : goal.returns
returns c =
    let p = c.args.plan.now in let held = argument c.args.controls.now in let frame = frame_of [] 0 in
    let state : State = one_of_each p.tables false (pos 0) (pos 0) in
    let law = c.still_code_is_free.ensures p.held held frame 0 1 state (tables_alone p.tables) c.requires.code.still refl in
    let is = c.steps-code.ensures.steps ∙ c.held.ensures in
    subst (λ (steps : List Step). c.run.new.regs ≡ registers_after steps held frame 0 1 state) is (c.run.ensures.regs (omega arith)) ∙ law.2
