-- What a board is to its callers: its tasks, what it was told, and which seats, slots and parcels are its own (this project's profile).
use Rattle.std.specs.Prelude.{◌≡◌, ℕ, ◌+◌, ◌-◌, ◌<◌, List, [], ◌++◌, length, drop, Option, Some}
use Rattle.atomic_table.specs.Seated.{TableId}
use Rattle.fv_graph.specs.Tasks.{Tasks}
use Rattle.fv_graph.specs.TasksBeside.{times}
use Rattle.fv_graph.specs.Graph.{Graph, inward, outward, feeds_of}
use Rattle.fv_ready.specs.declared.view.About.{About}
use Rattle.fv_ready.specs.Wired.{graph_wires}
use Rattle.fv_ready.specs.Rule.{Took}
use Rattle.fv_ready.specs.Carried.{slot_at}
use Rattle.fv_ready.specs.declared.board.Board.{Board}
use Rattle.fv_ready.specs.declared.seat.WorkerSeat.{WorkerSeat}
use Rattle.fv_ready.specs.Seats.{IsSeat, slots_of}
use Rattle.fv_ready.specs.Begun.{IsFirstSeat, AreFirstSeats}
use Rattle.fv_ready.specs.Closed.{AreSeats, AreParcels}

module _ {C Key : Type 0} where
  -- which board it is
  abbrev pub name_of : Board C Key → TableId
  name_of b = b.table.shared.table_id

  -- what the board was told when it began
  abbrev pub about_of : Board C Key → About C
  about_of b = b.table.shared.key

  -- the board's tasks, with the most vectors that they have room for
  abbrev pub graph_of : Board C Key → Graph
  graph_of b = b.tasks.now

  -- the board's tasks
  abbrev pub tasks_of : Board C Key → Tasks
  tasks_of b = (graph_of b).tasks

  -- all parcels of a task are handed: the slots of the edges out of it are full
  abbrev pub IsHanded : Board C Key → ℕ → WorkerSeat C → Type 0
  IsHanded b t s = (e : ℕ) → 0 < times e (outward (tasks_of b) t) → (p : C) × (slot_at (slots_of s) e ≡ Some p)

  -- the slots that stay with a seat at the finish of a task: those of the inner edges out of it
  abbrev pub slots_left : Board C Key → ℕ → WorkerSeat C → List (ℕ × Option C)
  slots_left b t s = let g = tasks_of b in drop (length (inward g t) + (length (outward g t) - length (feeds_of g t))) (slots_of s)

module _ {C Key : Type 0} (edge_of : C → ℕ) (key_of : C → Key) where
  -- a seat of this board, whatever it has in hand
  abbrev pub IsSeatOf : Board C Key → WorkerSeat C → Type 0
  IsSeatOf b s = IsSeat edge_of key_of (name_of b) (about_of b) s

  -- seats of this board
  abbrev pub AreSeatsOf : Board C Key → List (WorkerSeat C) → Type 0
  AreSeatsOf b seats = AreSeats edge_of key_of (name_of b) (about_of b) seats

  -- a seat of this board when it begins: it has the number k alone, and has neither done anything nor any slot
  abbrev pub IsFirstSeatOf : Board C Key → ℕ → WorkerSeat C → Type 0
  IsFirstSeatOf b k s = IsFirstSeat edge_of key_of (name_of b) (about_of b) k s

  -- the seats of this board when it begins, with the numbers from 0 on
  abbrev pub AreFirstSeatsOf : Board C Key → List (WorkerSeat C) → Type 0
  AreFirstSeatsOf b seats = AreFirstSeats edge_of key_of (name_of b) (about_of b) 0 seats

  -- the slots of a task that was taken: those of the edges into it, which are full, and those of the edges out of it, which are empty
  abbrev pub AreTaken : Board C Key → ℕ → List (ℕ × Option C) → Type 0
  AreTaken b t slots = Took graph_wires edge_of key_of (about_of b) (inward (tasks_of b) t) (outward (tasks_of b) t) [] slots

  -- a list gained one parcel for each loop: those of the edges from k on, in order, with the board's key
  abbrev pub GainsParcels : Board C Key → ℕ → List C → List C → Type 0
  GainsParcels b k before after = (ps : List C) × (after ≡ before ++ ps) × (length ps ≡ (tasks_of b).loops) × AreParcels edge_of key_of (about_of b) k ps
