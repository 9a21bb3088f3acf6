-- Workers without their seats, from the last on (this project's profile).
use Rattle.std.specs.Prelude.{◌≡◌, ℕ, ◌+◌, ◌-◌, ◌<◌, ◌≤◌, List, [], length, get_or, replicate, vec_capacity}
use Rattle.std.specs.Global.{Vec}
use Rattle.fv_outside.specs.headline.Tasks.{Tasks}
use Rattle.fv_outside.specs.Tasks.{task_count}
use Rattle.fv_graph.specs.Graph.{net_of, inward, outward}
use Rattle.fv_graph.specs.Core.{ready, dealt}
use Rattle.fv_steal.specs.declared.handles.TaskDeque.{TaskDeque}
use Rattle.fv_steal.specs.declared.handles.Victim.{Victim}
use Rattle.fv_ready.specs.declared.seat.WorkerSeat.{WorkerSeat}
use Rattle.fv_steal.specs.declared.part.Part.{Part}
use Rattle.fv_steal.specs.declared.worker.Worker.{Worker}
use Rattle.fv_steal.specs.inner.Made.{puts_of, rests_of, HaveLent}

-- the part of worker i, with this much room
pub record IsPart {C : Type 0} (room most : ℕ) (deques : List TaskDeque) (victims : List (Vec Victim)) (i : ℕ) (p : Part C) : Type 0 where
  pub deque : (d : TaskDeque) → p.deque ≡ get_or deques i d
  pub holds : (d : Vec Victim) → p.victims ≡ get_or victims i d
  pub no_lines : p.lines.items ≡ []
  pub lines_room : room ≤ vec_capacity p.lines
  pub no_parcels : p.parcels.items ≡ []
  pub parcels_room : most ≤ vec_capacity p.parcels

-- the parts of all workers but the first k, from the last on
pub record AreParts {C : Type 0} (room most : ℕ) (deques : List TaskDeque) (victims : List (Vec Victim)) (k : ℕ) (ps : List (Part C)) : Type 0 where
  pub long : length ps + k ≡ length deques
  pub each : (j : ℕ) (d : Part C) → j < length ps → IsPart room most deques victims (length deques - 1 - j) (get_or ps j d)

-- worker i has the part and the seat that stand so far from the end
pub record IsFrom {C : Type 0} (ps : List (Part C)) (seats : List (WorkerSeat C)) (i : ℕ) (w : Worker C) : Type 0 where
  pub number : w.number ≡ i
  pub seat : (d : WorkerSeat C) → w.seat ≡ get_or seats (length ps - 1 - i) d
  pub part : (d : Part C) → record { deque = w.deque; victims = w.victims; parcels = w.parcels; lines = w.lines } ≡ get_or ps (length ps - 1 - i) d

-- the workers of all parts but the first k
pub record AreFrom {C : Type 0} (ps : List (Part C)) (seats : List (WorkerSeat C)) (k : ℕ) (ws : List (Worker C)) : Type 0 where
  pub long : length ws + k ≡ length ps
  pub each : (i : ℕ) (d : Worker C) → i < length ws → IsFrom ps seats i (get_or ws i d)

-- The parts of a crew of this many workers, from the last on: the tasks that read no other were dealt to the deques, and then
-- holds on all of them were given out.
pub record AreCrewParts {C : Type 0} (g : Tasks) (workers : ℕ) (ps : List (Part C)) : Type 0 where
  pub dealt_to : List TaskDeque
  pub deques : List TaskDeque
  pub victims : List (Vec Victim)
  pub most : ℕ
  pub puts : puts_of dealt_to ≡ dealt workers 0 (ready (net_of g)) (replicate workers [])
  pub rests : rests_of dealt_to ≡ replicate workers (task_count g, 0, [])
  pub lent : HaveLent workers dealt_to deques victims
  pub edges : (t : ℕ) → t < task_count g → (length (inward g t) ≤ most) × (length (outward g t) ≤ most)
  pub parts : AreParts (task_count g) most deques victims 0 ps
