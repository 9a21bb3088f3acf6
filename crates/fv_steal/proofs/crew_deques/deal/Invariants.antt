use Rattle.std.proofs.Common.{◌≡◌, ℕ, ◌-◌, ◌<◌, ◌≤◌, ◌==◌, [], get_or, replicate, vec_len}
use Rattle.fv_outside.specs.Tasks.{times, task_count}
use Rattle.fv_graph.specs.Words.{passing}
use Rattle.fv_graph.specs.Net.{need_count}
use Rattle.fv_graph.specs.Graph.{net_of}
use Rattle.fv_graph.specs.Core.{dealt, ready}
use Rattle.fv_steal.specs.inner.Made.{puts_of, rests_of}
use Rattle.fv_steal.proofs.crew_deques.deal.Given as goal

abbrev pub invariant-loop-task : goal.invariant-loop-task
invariant-loop-task l = record {
  goes_on : dealt (vec_len l.deques) l.worker (passing (λ t. need_count (net_of l.tasks.tasks) t == 0) l.task (task_count l.tasks.tasks - l.task))
      (puts_of l.deques.items)
      ≡ dealt (vec_len l.initial.deques) 0 (ready (net_of l.tasks.tasks)) (replicate (vec_len l.initial.deques) []);
  fresh : (w x : ℕ) → l.task ≤ x → times x (get_or (puts_of l.deques.items) w []) ≡ 0;
  worker : l.worker < vec_len l.deques;
  rests : rests_of l.deques.items ≡ rests_of l.initial.deques.items;
  workers : vec_len l.deques ≡ vec_len l.initial.deques;
}
