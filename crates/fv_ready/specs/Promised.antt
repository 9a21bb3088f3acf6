-- What all seats' lists, taken together, tell of a board that is closed (this project's profile).
use Rattle.std.specs.Prelude.{◌≡◌, ℕ, ◌+◌, ◌<◌, ◌≤◌, ltb, length}
use Rattle.fv_graph.specs.Core.{numbers}
use Rattle.fv_graph.specs.Tasks.{bit, total}
use Rattle.fv_graph.specs.TasksBeside.{times}
use Rattle.fv_graph.specs.Net.{Net}
use Rattle.fv_ready.specs.declared.view.Deed.{Deed}
use Rattle.fv_ready.specs.Rule.{wins, loses, sees, arrives, stamps, starts, finishes, zeroes}
use Rattle.fv_ready.specs.Whole.{starts_at, finishes_at}

-- the rule's parts on stamps, claims, starts, finishes and arrivals, of lists in which f stands `n f` times
pub record Tells (net : Net) (n : (Deed → ℕ) → ℕ) : Type 0 where
  -- each number below that of all starts and finishes is drawn once, and no other
  pub stamped : (k : ℕ) → n (stamps k) ≡ bit (ltb k (total (λ t. n (starts t) + n (finishes t)) (numbers net.tasks)))
  pub won_once : (t : ℕ) → n (wins t) < 2
  pub lost_won : (t : ℕ) → t < net.tasks → 0 < n (loses t) → n (wins t) ≡ 1
  pub started_won : (t : ℕ) → n (starts t) ≤ n (wins t)
  pub finished_started : (t : ℕ) → n (finishes t) ≤ n (starts t)
  pub arrived_once : (e : ℕ) → n (arrives e) < 2
  pub arrived_done : (e : ℕ) → n (arrives e) ≤ n (finishes (net.source e))
  pub start_below : (k t : ℕ) → 0 < n (finishes_at k t) → (m : ℕ) × (m < k) × (0 < n (starts_at m t))
  pub after_reads : (k t e : ℕ) → t < net.tasks → 0 < n (starts_at k t) → 0 < times e (net.needs t) → (m : ℕ) × (m < k) × (0 < n (finishes_at m (net.source e)))
  pub seen_ready : (t : ℕ) → t < net.tasks → 0 < n (sees t) → (e : ℕ) → 0 < times e (net.needs t) → n (arrives e) ≡ 1
  pub won_seen : (t : ℕ) → 0 < n (wins t) → 0 < n (sees t)
  -- of the arrivals into a task one has the count 0 after it where all its edges have arrived, and none has it otherwise
  pub zeroed : (t : ℕ) → t < net.tasks → 0 < length (net.needs t) → ((e : ℕ) → 0 < times e (net.needs t) → n (arrives e) ≡ 1) → n (zeroes net t) ≡ 1
  pub zeroes_once : (t : ℕ) → t < net.tasks → 0 < length (net.needs t) → n (zeroes net t) < 2
  pub zeroes_all : (t : ℕ) → t < net.tasks → 0 < length (net.needs t) → 0 < n (zeroes net t) → (e : ℕ) → 0 < times e (net.needs t) → n (arrives e) ≡ 1
