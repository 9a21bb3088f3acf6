-- The law of the core, of events that replay to z from the opening state (this project's profile).
use Rattle.std.specs.Prelude.{◌≡◌, ℕ, ◌<◌, true, List, ◌∷◌, ◌++◌, get_or, Some}
use Rattle.fv_graph.specs.Tasks.{total}
use Rattle.fv_graph.specs.TasksBeside.{times}
use Rattle.fv_graph.specs.Net.{Net}
use Rattle.fv_graph.specs.Core.{Now, is_done, replayed, opening, takes, is_take}
use Rattle.fv_graph.specs.declared.event.Event.{Event}

-- all workers have left
abbrev pub AllLeft : Now → ℕ → Type 0
AllLeft z workers = (w : ℕ) → w < workers → get_or z.left w true ≡ true

-- each task that t reads is done after the events
abbrev pub ReadsDone : Net → ℕ → List Event → ℕ → Type 0
ReadsDone n workers before t =
    (s : Now) × (replayed n (opening n workers) before ≡ Some s) × ((e : ℕ) → 0 < times e (n.needs t) → is_done s (n.source e) ≡ true)

pub record CoreLaw (n : Net) (workers : ℕ) (events : List Event) (z : Now) : Type 0 where
  pub once : (t : ℕ) → total (takes t) events < 2
  pub after_reads : (before rest : List Event) (e : Event) (t : ℕ) → events ≡ before ++ e ∷ rest → takes t e ≡ 1 → (t < n.tasks) × ReadsDone n workers before t
  pub all_done : AllLeft z workers → (t : ℕ) → t < n.tasks → is_done z t ≡ true
  pub as_many : AllLeft z workers → total is_take events ≡ n.tasks
