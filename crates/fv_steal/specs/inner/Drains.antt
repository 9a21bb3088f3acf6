-- Workers while what is left in their deques is run (this project's profile).
use Rattle.std.specs.Prelude.{◌≡◌, ℕ, ◌+◌, ◌<◌, List, length, All, get_or}
use Rattle.fv_outside.specs.headline.Tasks.{Tasks, total}
use Rattle.fv_outside.specs.Tasks.{times, task_count}
use Rattle.fv_ready.specs.Rule.{done_by, claims}
use Rattle.fv_ready.specs.declared.board.Board.{Board}
use Rattle.fv_steal.specs.declared.worker.Worker.{Worker}
use Rattle.fv_steal.specs.Crews.{did, took, own_account, IsWorkerOf, IsSame}

-- no hold on a worker's deque is out
abbrev pub HaveNone : {C : Type 0} → List (Worker C) → Type 0
HaveNone {C} ws = (i : ℕ) (d : Worker C) → i < length ws → (own_account (get_or ws i d)).lent ≡ 0

-- all that lay in the deques of the first k workers was taken, and what was taken was claimed
pub record AreDrained {C Key : Type 0} (edge_of : C → ℕ) (key_of : C → Key) (b : Board C Key) (g : Tasks) (k : ℕ) (old new : List (Worker C)) : Type 0 where
  pub count : length new ≡ length old
  pub workers : All (λ w. IsWorkerOf edge_of key_of b w) new
  pub same : (i : ℕ) (d : Worker C) → i < length old → IsSame (get_or old i d) (get_or new i d)
  pub step : (x : ℕ) → x < task_count g → total (λ w. done_by (claims x) (did w)) new + total (λ w. took w x) old
      ≡ total (λ w. done_by (claims x) (did w)) old + total (λ w. took w x) new
  pub emptied : (i : ℕ) (d : Worker C) → i < length old → i < k → (x : ℕ) → times x (own_account (get_or new i d)).put
      ≡ times x (own_account (get_or new i d)).taken
