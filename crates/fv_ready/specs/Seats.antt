-- What a worker's seat means (this project's profile).
use Rattle.std.specs.Prelude.{◌≡◌, ℕ, ◌+◌, ◌<◌, ◌≤◌, List, ◌∷◌, ◌++◌, length, Option, Some, vec_capacity, MatchOption}
use Rattle.atomic_table.specs.Seated.{TableId}
use Rattle.fv_graph.specs.TasksBeside.{times, task_count}
use Rattle.fv_graph.specs.Graph.{inward, outward}
use Rattle.fv_ready.specs.declared.view.About.{About}
use Rattle.fv_ready.specs.declared.view.View.{View}
use Rattle.fv_ready.specs.Wired.{graph_wires}
use Rattle.fv_ready.specs.Rule.{places}
use Rattle.fv_ready.specs.Carried.{IsFree, IsBusy}
use Rattle.fv_ready.specs.declared.seat.InHand.{InHand}
use Rattle.fv_ready.specs.declared.seat.WorkerSeat.{WorkerSeat}

-- where an edge stands first in a list
abbrev pub IsPlaceOf : List ℕ → ℕ → ℕ → Type 0
IsPlaceOf edges edge place = (xs ys : List ℕ) × (edges ≡ xs ++ edge ∷ ys) × (place ≡ length xs) × (times edge xs ≡ 0)

module _ {C : Type 0} where
  -- what the seat knows: its board, its numbers, and the list of its steps
  abbrev pub view_of : WorkerSeat C → View C
  view_of s = s.seat.me.0

  -- the slots that the seat has, each with its edge and what it holds
  abbrev pub slots_of : WorkerSeat C → List (ℕ × Option C)
  slots_of s = s.seat.me.1

  -- which board the seat is of
  abbrev pub board_of : WorkerSeat C → TableId
  board_of s = s.seat.table_id

  -- the edges of its slots, as the seat has them listed, and for how many it has room
  abbrev pub listed_of : WorkerSeat C → List ℕ
  listed_of s = s.edges.items

  abbrev pub room_of : WorkerSeat C → ℕ
  room_of s = vec_capacity s.edges

  -- the task that the seat has in hand, if any
  abbrev pub hand_of : WorkerSeat C → Option InHand
  hand_of s = s.in_hand

-- a seat of this board, whatever it has in hand
pub record IsSeat {C Key : Type 0} (edge_of : C → ℕ) (key_of : C → Key) (id : TableId) (a : About C) (s : WorkerSeat C) : Type 0 where
  pub name : board_of s ≡ id
  pub board : (view_of s).board ≡ Some a
  pub mirror : places (slots_of s) ≡ listed_of s
  pub room : (t : ℕ) → t < task_count a.tasks.value.tasks → length (inward a.tasks.value.tasks t) + length (outward a.tasks.value.tasks t)
      ≤ room_of s
  pub hand : MatchOption (hand_of s) (IsFree graph_wires edge_of key_of a (view_of s) (slots_of s))
      (λ r. IsBusy graph_wires edge_of key_of a r.task r.started (view_of s) (slots_of s))
