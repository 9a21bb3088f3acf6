use Rattle.std.proofs.Common.{◌≡◌, ℕ, suc, ◌-◌, ◌*◌, List, subst, sym, ap, ap₂, ◌∙◌, arith, min, slice_index_or, []}
use Rattle.std.proofs.Math.Nat.{min-le_right}
use Rattle.fv_loopcode.specs.Words.{argument}
use Rattle.fv_loopcode.specs.declared.step.Step.{Step}
use Rattle.fv_loopcode.specs.headline.State.{State}
use Rattle.fv_loopcode.specs.headline.Code.{ran}
use Rattle.fv_loopcode.specs.Code.{MayRun, frame_of}
use Rattle.fv_engine_codes.specs.Lanes.{state_in}
use Rattle.fv_engine_crew.specs.Contents.{upto}
use Rattle.fv_engine_crew.specs.inner.Turns.{After}
use Rattle.fv_engine_crew.specs.declared.start.Start.{Start}
use Rattle.fv_engine_crew.proofs.Props.{may_run_merely, own_after_merely}
use Rattle.fv_engine_crew.proofs.Tasking.{upto_next}
use Rattle.fv_engine_tasks.proofs.lemmas.Windows.{starts_at, window_is, input_long}
use Rattle.fv_engine_crew.proofs.body.LoopBody.run_code.Goals as goal

pub run-requires-clause-may : goal.run-requires-clause-may
run-requires-clause-may c =
    let k : Start = c.args.self.now.start in
    let v : ℕ = c.args.task.vector in
    let code : List Step = slice_index_or c.args.self.now.codes.now c.args.task.loop_no [] in
    let state : State = state_in c.args.writers.now.lanes in
    let at : c.from.result * c.from-2.result ≡ v * k.vector = ap₂ (λ (a b : ℕ). a * b) c.from.ensures c.from-2.ensures in
    let from : c.from.result * c.from-2.result ≡ upto k v = at ∙ sym (starts_at v k.vector k.frames c.requires.inside) in
    let count : c.min-count.result ≡ upto k (suc v) - upto k v =
    c.min-count.ensures ∙ ap₂ min c.from-3.ensures (ap₂ (λ (a b : ℕ). a - b) c.from-4.ensures at) ∙ sym (window_is v k.vector k.frames c.requires.inside) in
    subst (λ (steps : List Step). MayRun steps (argument k.held.now) (frame_of k.input.now k.channels)
    (c.from.result * c.from-2.result) c.min-count.result state)
    (sym c.code-code.ensures)
    (subst (λ (x : ℕ). MayRun code (argument k.held.now) (frame_of k.input.now k.channels) x c.min-count.result state) (sym from)
    (subst (λ (y : ℕ). MayRun code (argument k.held.now) (frame_of k.input.now k.channels) (upto k v) y state) (sym count)
    (may_run_merely (record { tasks = c.tasks_are_done.ensures; numbers = c.renumbered_code_obeys.ensures }) k c.args.task.loop_no v
    c.requires.real code state c.requires.known c.requires.before)))

pub returns-clause-after : goal.returns-clause-after
returns-clause-after c =
    let k : Start = c.args.self.now.start in
    let v : ℕ = c.args.task.vector in
    let code : List Step = slice_index_or c.args.self.now.codes.now c.args.task.loop_no [] in
    let state : State = state_in c.args.writers.now.lanes in
    let at : c.from.result * c.from-2.result ≡ v * k.vector = ap₂ (λ (a b : ℕ). a * b) c.from.ensures c.from-2.ensures in
    let from : c.from.result * c.from-2.result ≡ upto k v = at ∙ sym (starts_at v k.vector k.frames c.requires.inside) in
    let count : c.min-count.result ≡ upto k (suc v) - upto k v =
    c.min-count.ensures ∙ ap₂ min c.from-3.ensures (ap₂ (λ (a b : ℕ). a - b) c.from-4.ensures at) ∙ sym (window_is v k.vector k.frames c.requires.inside) in
    let is : state_in c.run.new.store ≡
    ran code (argument k.held.now) (frame_of k.input.now k.channels) (upto k v) (upto k (suc v) - upto k v) state =
    c.run.ensures.state
    ∙ ap (λ (steps : List Step). ran steps (argument k.held.now) (frame_of k.input.now k.channels)
    (c.from.result * c.from-2.result) c.min-count.result state) c.code-code.ensures
    ∙ ap₂ (λ (x y : ℕ). ran code (argument k.held.now) (frame_of k.input.now k.channels) x y state) from count in
    subst (λ (s : State). After k c.args.task.loop_no v s) (sym is)
    (own_after_merely (record { tasks = c.tasks_are_done.ensures; numbers = c.renumbered_code_obeys.ensures }) k c.args.task.loop_no v code
    state c.requires.known c.requires.before)

pub run-requires-clause-input : goal.run-requires-clause-input
run-requires-clause-input c = λ i named.
    let k : Start = c.args.self.now.start in
    let v : ℕ = c.args.task.vector in
    let at : c.from.result * c.from-2.result ≡ v * k.vector = ap₂ (λ (a b : ℕ). a * b) c.from.ensures c.from-2.ensures in
    let from : c.from.result * c.from-2.result ≡ upto k v = at ∙ sym (starts_at v k.vector k.frames c.requires.inside) in
    let count : c.min-count.result ≡ upto k (suc v) - upto k v =
    c.min-count.ensures ∙ ap₂ min c.from-3.ensures (ap₂ (λ (a b : ℕ). a - b) c.from-4.ensures at) ∙ sym (window_is v k.vector k.frames c.requires.inside) in
    input_long (c.from.result * c.from-2.result) c.min-count.result k.frames k.channels _
    (omega (arith, from, count, upto_next v k.vector k.frames, min-le_right (suc v * k.vector) k.frames)) c.requires.input
