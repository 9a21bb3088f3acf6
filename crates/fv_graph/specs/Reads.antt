-- What the edges mean: which tasks a task reads, and which read it (this project's profile).
use Rattle.std.specs.Prelude.{◌≡◌, ℕ, ◌<◌, List, map, AllPairs}
use Rattle.fv_outside.specs.headline.Tasks.{Tasks, bit, reads_task}
use Rattle.fv_outside.specs.Tasks.{times, task_count}
use Rattle.fv_graph.specs.Graph.{task_of, source_of, reader_of, needs_of, feeds_of, pair_edges_into, pair_edges_out}

-- each number is below those after it
abbrev pub Rises : List ℕ → Type 0
Rises xs = AllPairs (λ a b. a < b) xs

-- Of a task t: the inner edges into it come from the tasks that it reads, one from each. Those out of it go to the tasks that read
-- it, one to each. Those of its own vector stand in the order of the loops.
pub record ReadsLaw (g : Tasks) (t : ℕ) : Type 0 where
  pub reads : (s : ℕ) → s < task_count g → times s (map (source_of g) (needs_of g t)) ≡ bit (reads_task g (task_of g t) (task_of g s))
  pub feeds : (s : ℕ) → s < task_count g → times s (map (reader_of g) (feeds_of g t)) ≡ bit (reads_task g (task_of g s) (task_of g t))
  pub sources_rise : Rises (map (source_of g) (pair_edges_into g t))
  pub readers_rise : Rises (map (reader_of g) (pair_edges_out g t))
