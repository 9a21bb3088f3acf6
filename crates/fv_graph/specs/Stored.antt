-- How a core is stored: the lists by task and by worker, with room for all that can come (this project's profile).
use Rattle.std.specs.Prelude.{ℕ, ◌<◌, ◌≤◌, get_or}
use Rattle.std.specs.Vec.{vec_capacity}
use Rattle.fv_graph.specs.TasksBeside.{task_count}
use Rattle.fv_graph.specs.Graph.{IsGraph, edges_of, net_of}
use Rattle.fv_graph.specs.Core.{Now}
use Rattle.fv_graph.specs.Valid.{IsValid}
use Rattle.fv_graph.specs.Kept.{deques_of, rooms_of, owed_of, owed_rooms}
use Rattle.fv_graph.specs.Running.{Running}
use Rattle.fv_graph.specs.declared.task_core.Core.TheInside.{Inside}

-- the state that the fields mean
abbrev pub now_of : Inside → Now
now_of c = record {
  counts = c.counts.items;
  done = c.done.items;
  deques = deques_of c.deques.items;
  runs = c.runs.items;
  owes = owed_of c.owes.items;
  left = c.left.items;
}

-- the core that the fields mean
abbrev pub running_of : Inside → Running
running_of c = record {
  tasks = c.seen.value.tasks;
  workers = c.workers;
  room_tasks = c.room_tasks;
  room_edges = c.room_edges;
  now = now_of c;
}

-- the state is valid, and each list has room for all tasks, or for all edges
pub record IsStored (c : Inside) : Type 0 where
  pub graph : IsGraph c.seen.value.tasks
  pub valid : IsValid (net_of c.seen.value.tasks) c.workers (now_of c)
  pub some_worker : 0 < c.workers
  pub tasks_fit : task_count c.seen.value.tasks ≤ c.room_tasks
  pub edges_fit : edges_of c.seen.value.tasks ≤ c.room_edges
  pub counts_room : c.room_tasks ≤ vec_capacity c.counts
  pub done_room : c.room_tasks ≤ vec_capacity c.done
  pub deques_room : (w : ℕ) → w < c.workers → c.room_tasks ≤ get_or (rooms_of c.deques.items) w 0
  pub owed_room : (w : ℕ) → w < c.workers → c.room_edges ≤ get_or (owed_rooms c.owes.items) w 0
