-- How often something stands in the lists of several seats (this project's profile).
use Rattle.std.specs.Prelude.{◌≡◌, ℕ, ◌+◌, ◌<◌, ◌==◌, List, [], All, None}
use Rattle.fv_graph.specs.Tasks.{bit, total}
use Rattle.fv_graph.specs.TasksBeside.{times}
use Rattle.fv_graph.specs.Net.{Net, need_count}
use Rattle.fv_ready.specs.declared.view.Deed.{Deed}
use Rattle.fv_ready.specs.Rule.{done_by, claims, zeroes}
use Rattle.fv_ready.specs.declared.seat.WorkerSeat.{WorkerSeat}
use Rattle.fv_ready.specs.Seats.{view_of, slots_of, hand_of}

-- how often something stands in the lists of all these seats
abbrev pub told_by : {C : Type 0} → (Deed → ℕ) → List (WorkerSeat C) → ℕ
told_by f seats = total (λ s. done_by f (view_of s)) seats

-- how many of these seats have a number
abbrev pub having : {C : Type 0} → ℕ → List (WorkerSeat C) → ℕ
having k seats = total (λ s. times k (view_of s).numbers) seats

-- taken together, these seats have the number of each worker once, and there is a worker
abbrev pub HaveAll : {C : Type 0} → ℕ → List (WorkerSeat C) → Type 0
HaveAll workers seats = (0 < workers) × ((k : ℕ) → k < workers → having k seats ≡ 1)

-- Nothing is left over: no seat has a task in hand or a slot. Each task was claimed as often as it was dealt: once where it reads
-- no other, and once for each arrival after which its count was 0.
pub record NothingLeft {C : Type 0} (net : Net) (seats : List (WorkerSeat C)) : Type 0 where
  pub free : All (λ s. (hand_of s ≡ None) × (slots_of s ≡ [])) seats
  pub claimed : (t : ℕ) → t < net.tasks → told_by (claims t) seats ≡ bit (need_count net t == 0) + told_by (zeroes net t) seats
