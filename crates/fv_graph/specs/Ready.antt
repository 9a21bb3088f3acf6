-- What a task that is taken finds (this project's profile).
use Rattle.std.specs.Prelude.{◌≡◌, ℕ, ◌<◌, true, false}
use Rattle.fv_graph.specs.Tasks.{Tasks, reads_task}
use Rattle.fv_graph.specs.TasksBeside.{task_count}
use Rattle.fv_graph.specs.Graph.{task_of}
use Rattle.fv_graph.specs.Core.{Now, is_done}
use Rattle.fv_graph.specs.declared.event.Event.{Event}
use Rattle.fv_graph.specs.declared.event.Event.TheVariants.{Take, Steal, Finish, Arrive, Leave}

-- the task is there and not done, and all that it reads is done
pub record TakesReady (g : Tasks) (s : Now) (t : ℕ) : Type 0 where
  pub within : t < task_count g
  pub fresh : is_done s t ≡ false
  pub reads : (u : ℕ) → u < task_count g → reads_task g (task_of g t) (task_of g u) ≡ true → is_done s u ≡ true

-- an event that takes a task finds it so
abbrev pub FindsReady : Tasks → Now → Event → Type 0
FindsReady g s (Take w t) = TakesReady g s t
FindsReady g s (Steal w v t) = TakesReady g s t
FindsReady g s (Finish w t) = Unit {0}
FindsReady g s (Arrive w e) = Unit {0}
FindsReady g s (Leave w) = Unit {0}
