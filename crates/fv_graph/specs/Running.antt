-- What a core means: the tasks that it runs, how many workers there are, the room, and the state (this project's profile).
use Rattle.std.specs.Prelude.{ℕ, List, Bool, Option, refl}
use Rattle.std.specs.Coded.{Coded, code_by, coded×, coded_ℕ, coded_bool, coded_list, coded_option}
use Rattle.fv_graph.specs.Tasks.{Tasks}
use Rattle.fv_graph.specs.TasksBeside.{coded_tasks}
use Rattle.fv_graph.specs.Graph.{IsGraph, net_of}
use Rattle.fv_graph.specs.Core.{Now}
use Rattle.fv_graph.specs.Valid.{IsValid}

pub record Running : Type 0 where
  pub tasks : Tasks
  pub workers : ℕ
  -- the most tasks, and the most edges, that there is room for
  pub room_tasks : ℕ
  pub room_edges : ℕ
  pub now : Now

-- as tuples of their fields
abbrev coded_now : Coded Now
coded_now =
    code_by (List ℕ × (List Bool × (List (List ℕ) × (List (Option ℕ) × (List (List ℕ) × List Bool)))))
    (coded× (coded_list coded_ℕ)
    (coded× (coded_list coded_bool)
    (coded× (coded_list (coded_list coded_ℕ))
    (coded× (coded_list (coded_option coded_ℕ)) (coded× (coded_list (coded_list coded_ℕ)) (coded_list coded_bool))))))
    (λ s. (s.counts, (s.done, (s.deques, (s.runs, (s.owes, s.left))))))
    (λ p. record { counts = p.0; done = p.1.0; deques = p.1.1.0; runs = p.1.1.1.0; owes = p.1.1.1.1.0; left = p.1.1.1.1.1 }) (λ _. refl)

-- a core as a tuple of its fields
abbrev pub coded_running : Coded Running
coded_running =
    code_by (Tasks × (ℕ × (ℕ × (ℕ × Now)))) (coded× coded_tasks (coded× coded_ℕ (coded× coded_ℕ (coded× coded_ℕ coded_now))))
    (λ r. (r.tasks, (r.workers, (r.room_tasks, (r.room_edges, r.now)))))
    (λ p. record { tasks = p.0; workers = p.1.0; room_tasks = p.1.1.0; room_edges = p.1.1.1.0; now = p.1.1.1.1 }) (λ _. refl)

-- each core: its tasks are a graph, and its state is valid
pub record IsRunning (r : Running) : Type 0 where
  pub graph : IsGraph r.tasks
  pub valid : IsValid (net_of r.tasks) r.workers r.now
