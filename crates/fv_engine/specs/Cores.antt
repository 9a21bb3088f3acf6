-- The core of an engine (this project's profile).
use Rattle.std.specs.Prelude.{◌≡◌, ◌≤◌}
use Rattle.fv_outside.specs.Tasks.{task_count}
use Rattle.fv_graph.specs.Graph.{Graph, edges_of}
use Rattle.fv_graph.specs.Running.{Running}

-- a core of one worker, with room for the most vectors that the tasks may have
pub record HasCore (t : Graph) (core : Running) : Type 0 where
  pub one : core.workers ≡ 1
  pub tasks : task_count (record t.tasks { vectors = t.most }) ≤ core.room_tasks
  pub edges : edges_of (record t.tasks { vectors = t.most }) ≤ core.room_edges
