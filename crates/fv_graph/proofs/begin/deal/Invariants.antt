use Rattle.std.proofs.Common.{◌≡◌, ℕ, ◌-◌, ◌<◌, ◌≤◌, ◌==◌, [], length, get_or, replicate, vec_len}
use Rattle.fv_graph.specs.TasksBeside.{task_count}
use Rattle.fv_graph.specs.Words.{passing}
use Rattle.fv_graph.specs.Net.{need_count}
use Rattle.fv_graph.specs.Graph.{net_of}
use Rattle.fv_graph.specs.Core.{dealt, ready}
use Rattle.fv_graph.specs.Kept.{deques_of, rooms_of}
use Rattle.fv_graph.proofs.begin.deal.Given as goal

abbrev pub invariant-loop-task : goal.invariant-loop-task
invariant-loop-task l = record {
  goes_on : dealt (vec_len l.deques) l.worker (passing (λ t. need_count (net_of l.tasks.tasks) t == 0) l.task (task_count l.tasks.tasks - l.task))
      (deques_of l.deques.items)
      ≡ dealt (vec_len l.initial.deques) 0 (ready (net_of l.tasks.tasks)) (replicate (vec_len l.initial.deques) []);
  short : (w : ℕ) → length (get_or (deques_of l.deques.items) w []) ≤ l.task;
  worker : l.worker < vec_len l.deques;
  rooms : rooms_of l.deques.items ≡ rooms_of l.initial.deques.items;
  workers : vec_len l.deques ≡ vec_len l.initial.deques;
}
