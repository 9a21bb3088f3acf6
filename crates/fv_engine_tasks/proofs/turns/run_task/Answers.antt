use Rattle.std.proofs.Common.{◌≡◌, ℕ, suc, ◌-◌, ◌*◌, List, get_or, subst, sym, ap₂, ◌∙◌, arith, min}
use Rattle.std.proofs.Math.Nat.{min-le_right}
use Rattle.fv_loopcode.specs.Words.{argument}
use Rattle.fv_loopcode.specs.declared.step.Step.{Step}
use Rattle.fv_loopcode.specs.Code.{MayRun, frame_of}
use Rattle.fv_loopcode.specs.Blocks.{before}
use Rattle.fv_loopcode_machine.specs.Scratches.{Serves}
use Rattle.fv_engine_tasks.proofs.lemmas.Served.{serve_set}
use Rattle.fv_engine_tasks.proofs.lemmas.Windows.{starts_at, window_is, input_long}
use Rattle.fv_engine_tasks.proofs.turns.run_task.Goals as goal

pub run-requires-clause-input : goal.run-requires-clause-input
run-requires-clause-input g c = λ i named.
    let job = c.args.job.now in let v : ℕ = c.args.task.vector in
    let at : c.from.result * c.from-2.result ≡ v * job.vector = ap₂ (λ (a b : ℕ). a * b) c.from.ensures c.from-2.ensures in
    let from : c.from.result * c.from-2.result ≡ before job.vector job.frames v = at ∙ sym (starts_at v job.vector job.frames c.requires.inside) in
    let count : c.min-count.result ≡ before job.vector job.frames (suc v) - before job.vector job.frames v =
    c.min-count.ensures ∙ ap₂ min c.from-3.ensures (ap₂ (λ (a b : ℕ). a - b) c.from-4.ensures at)
    ∙ sym (window_is v job.vector job.frames c.requires.inside) in
    input_long (c.from.result * c.from-2.result) c.min-count.result job.frames job.channels _
    (omega (arith, from, count, min-le_right (suc v * job.vector) job.frames)) c.requires.input

pub run-requires-clause-may : goal.run-requires-clause-may
run-requires-clause-may g c =
    let job = c.args.job.now in let v : ℕ = c.args.task.vector in let state = g.S.Store.state c.args.store.now in
    let code : List Step = (g.P.Codes.parts job.plan.now).loops.code c.args.task.loop_no in
    let held = argument job.held.now in let inputs = frame_of job.input.now job.channels in
    let at : c.from.result * c.from-2.result ≡ v * job.vector = ap₂ (λ (a b : ℕ). a * b) c.from.ensures c.from-2.ensures in
    let from : c.from.result * c.from-2.result ≡ before job.vector job.frames v = at ∙ sym (starts_at v job.vector job.frames c.requires.inside) in
    let count : c.min-count.result ≡ before job.vector job.frames (suc v) - before job.vector job.frames v =
    c.min-count.ensures ∙ ap₂ min c.from-3.ensures (ap₂ (λ (a b : ℕ). a - b) c.from-4.ensures at)
    ∙ sym (window_is v job.vector job.frames c.requires.inside) in
    subst (λ (steps : List Step). MayRun steps held inputs (c.from.result * c.from-2.result) c.min-count.result state) (sym c.code-code.ensures)
    (subst (λ (x : ℕ). MayRun code held inputs x c.min-count.result state) (sym from)
    (subst (λ (y : ℕ). MayRun code held inputs (before job.vector job.frames v) y state) (sym count) c.requires.may))

pub run-requires-clause-scratch : goal.run-requires-clause-scratch
run-requires-clause-scratch g c =
    let job = c.args.job.now in let held = argument job.held.now in let j : ℕ = c.args.task.loop_no in
    let one = c.index-scratches-task.result in
    subst (λ (steps : List Step). Serves steps held (get_or c.args.scratches.now j one)) (sym c.code-code.ensures)
    (c.requires.scratch.each j one c.requires.there)

pub returns-clause-scratch : goal.returns-clause-scratch
returns-clause-scratch g c =
    let job = c.args.job.now in let held = argument job.held.now in let parts = g.P.Codes.parts job.plan.now in
    serve_set parts held c.args.scratches.now c.args.task.loop_no c.run.new.scratch c.requires.scratch c.requires.there
    (subst (λ (steps : List Step). Serves steps held c.run.new.scratch) c.code-code.ensures c.run.ensures.scratch)
