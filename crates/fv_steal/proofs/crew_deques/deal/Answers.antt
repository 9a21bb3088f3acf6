use Rattle.std.proofs.Common.{◌≡◌, ℕ, ◌+◌, ◌-◌, ◌%◌, ◌<◌, ◌==◌, ◌++◌, ◌∷◌, [], Bool, get_or, set, cond, ap, ◌∙◌, arith, vec_len, mod-lt}
use Rattle.std.proofs.lemmas.List.{length-map}
use Rattle.fv_outside.specs.Tasks.{task_count}
use Rattle.fv_graph.specs.Words.{passing}
use Rattle.fv_graph.specs.Net.{need_count}
use Rattle.fv_graph.specs.Graph.{net_of}
use Rattle.fv_graph.specs.Core.{dealt}
use Rattle.fv_graph.proofs.lemmas.Dealing.{dealt_next, one_of_two}
use Rattle.fv_steal.specs.declared.handles.TaskDeque.{TaskDeque}
use Rattle.fv_steal.specs.Deques.{account_of}
use Rattle.fv_steal.specs.inner.Made.{puts_of}
use Rattle.fv_steal.proofs.Deals.{rooms, fresh_after}
use Rattle.fv_steal.proofs.crew_deques.deal.Goals as goal

pub deal_one-worker-requires-clause-below : goal.deal_one-worker-requires-clause-below
deal_one-worker-requires-clause-below c = rooms c.loop-task.deques.items (vec_len c.args.deques.now) (task_count c.args.tasks.now.tasks)
    (c.loop-task.invariant.rests ∙ c.requires.rests) c.loop-task.task (let l = c.loop-task-test.true in let e = c.len-task-end.ensures.value in omega arith)

pub loop-task-preserved : goal.loop-task-preserved
loop-task-preserved c =
    let i = c.loop-task.invariant in let t = c.loop-task.task in let w = c.loop-task.worker in
    let g = c.args.tasks.now.tasks in
    let p : ℕ → Bool = λ k. need_count (net_of g) k == 0 in
    let ds = puts_of c.loop-task.deques.items in
    let es = puts_of c.deal_one-worker.new.deques.items in
    let workers = vec_len c.loop-task.deques in
    let v = c.deal_one-worker.result in
    let next : v ≡ cond (p t) ((w + 1) % workers) w = c.deal_one-worker.ensures.next ∙ ap (λ k. cond (k == 0) ((w + 1) % workers) w) c.count.ensures in
    let deque : es ≡ cond (p t) (set ds w (get_or ds w [] ++ t ∷ [])) ds = c.deal_one-worker.ensures.puts
    ∙ ap (λ k. cond (k == 0) (set ds w (get_or ds w [] ++ t ∷ [])) ds) c.count.ensures in
    let same = c.deal_one-worker.ensures.workers in
    let here = i.worker in
    let long = length-map c.loop-task.deques.items (λ (d : TaskDeque). (account_of d).put) in let o = c.loop-task.deques.ok.0 in
    let low : t < task_count g = let l = c.loop-task-test.true in let e = c.len-task-end.ensures.value in omega arith in
    record {
      goes_on = ap (λ k. dealt k v (passing p (t + 1) (task_count g - (t + 1))) es) same
          ∙ dealt_next p workers w t (task_count g) ds es v here low next deque ∙ i.goes_on;
      fresh = fresh_after (p t) ds es w t (omega arith) i.fresh deque;
      worker = let m = one_of_two (p t) ((w + 1) % workers) w workers (mod-lt (w + 1) (omega arith)) here in omega arith;
      rests = c.deal_one-worker.ensures.rests ∙ i.rests;
      workers = same ∙ i.workers;
    }
