use Rattle.std.proofs.Common.{arith, ◌*◌, [], ◌∷◌, ◌++◌, length, set, true, sym, ap, ◌∙◌, subst, ◌<◌}
use Rattle.fv_outside.specs.declared.tasks.Task.{Task}
use Rattle.fv_loopcode.specs.headline.State.{State}
use Rattle.fv_engine_tasks.specs.Jobs.{block_of, left_to_do}
use Rattle.fv_engine_tasks.specs.Underway.{IsUnderway}
use Rattle.fv_engine_tasks.specs.inner.Lines.{line_of}
use Rattle.fv_engine_tasks.proofs.EventLemmas.{keeps_on}
use Rattle.fv_engine_tasks.proofs.OneMore.{MayRunTask, task_ran, is_next, begins_inside, may, one_more_done, one_less}
use Rattle.fv_engine_tasks.proofs.turns.turn.Goals as goal

pub run_task-requires-clause-inside : goal.run_task-requires-clause-inside
run_task-requires-clause-inside g c =
    let j = c.args.job.now in
    subst (λ (x : Task). x.vector * j.vector < j.frames) (sym c.task-task.ensures)
    (begins_inside (is_next c.requires.job c.requires.underway.3 c.take.ensures.ready))

pub run_task-requires-clause-may : goal.run_task-requires-clause-may
run_task-requires-clause-may g c =
    subst (λ (x : Task). MayRunTask (block_of g.P.Codes.parts c.args.job.now) x (g.S.Store.state c.args.store.now)) (sym c.task-task.ensures)
    (may (is_next c.requires.job c.requires.underway.3 c.take.ensures.ready) c.task_is_free.ensures c.requires.underway.2)

pub returns-clause-core : goal.returns-clause-core
returns-clause-core g c =
    let first = c.args.core.now in let taken = c.take.new.core in let finished = c.finish.new.core in
    keeps_on first finished c.arrive_all.new.core (keeps_on first taken finished c.take.ensures.kept c.finish.ensures.kept) c.arrive_all.ensures.kept

pub returns-clause-underway : goal.returns-clause-underway
returns-clause-underway g c first lines real u =
    let tasks = c.args.tasks.now.tasks in let b = block_of g.P.Codes.parts c.args.job.now in let z = c.arrive_all.new.core.now in
    let lanes = g.S.Store.state c.args.store.now in let task = c.task-task.result in let count = length lines in
    let done = c.arrive_all.ensures.done ∙ c.finish.ensures.done ∙ ap (λ d. set d c.args.t true) c.take.ensures.done in
    let base = one_more_done (is_next c.requires.job u c.take.ensures.ready) c.task_is_free.ensures real z done c.arrive_all.ensures.free in
    let at_task = subst (λ (x : Task). IsUnderway tasks b first z (task_ran b x lanes) (lines ++ line_of x count ∷ [])) (sym c.task-task.ensures) base in
    subst (λ (l : State). IsUnderway tasks b first z l (lines ++ line_of task count ∷ [])) (sym c.run_task.ensures.state) at_task

pub returns-clause-less : goal.returns-clause-less
returns-clause-less g c =
    let u = c.requires.underway.3 in let z = one_less c.args.tasks.now.tasks c.args.core.now.now c.args.t u.tasks c.take.ensures.ready in
    let done = c.arrive_all.ensures.done ∙ c.finish.ensures.done ∙ ap (λ d. set d c.args.t true) c.take.ensures.done in
    let e = ap left_to_do done in omega (arith, z, e)
