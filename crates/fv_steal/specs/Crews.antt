-- What workers are between their turns, and a crew of them (this project's profile).
use Rattle.std.specs.Prelude.{◌≡◌, ℕ, ◌+◌, ◌<◌, ◌≤◌, List, [], ◌∷◌, map, length, All, None, vec_capacity, slice_index_or}
use Rattle.std.specs.Global.{Global}
use Rattle.atomic_blocks.specs.Lent.{RowsId}
use Rattle.atomic_table.specs.Seated.{TableId}
use Rattle.fv_outside.specs.headline.Tasks.{Tasks, total}
use Rattle.fv_outside.specs.Tasks.{times, task_count}
use Rattle.fv_outside.specs.headline.Journal.{stamped}
use Rattle.fv_outside.specs.declared.gate.Line.{Line}
use Rattle.fv_graph.specs.Net.{Net}
use Rattle.fv_graph.specs.Graph.{Graph, net_of, inward, outward, task_at}
use Rattle.fv_graph.specs.Core.{opening, deque_of}
use Rattle.fv_ready.specs.declared.view.About.{About}
use Rattle.fv_ready.specs.declared.view.View.{View}
use Rattle.fv_ready.specs.Rule.{done_by, wins, claims, stamps, zeroes}
use Rattle.fv_ready.specs.Whole.{starts_at, finishes_at}
use Rattle.fv_ready.specs.declared.seat.WorkerSeat.{WorkerSeat}
use Rattle.fv_ready.specs.declared.board.Board.{Board}
use Rattle.fv_ready.specs.Seats.{view_of, slots_of, hand_of, IsSeat}
use Rattle.fv_ready.specs.Begun.{AreFirstSeats}
use Rattle.fv_ready.specs.Boards.{name_of, about_of}
use Rattle.fv_steal.specs.declared.rule.Account.{Account}
use Rattle.fv_steal.specs.Deques.{account_of, room_of, lies_at, robs, taken_by}
use Rattle.fv_steal.specs.declared.worker.Worker.{Worker}

-- what contracts see of a worker: nothing else of it is named
module _ {C : Type 0} where
  -- which worker of its crew it is
  abbrev pub number_of : Worker C → ℕ
  number_of w = w.number

  abbrev pub seat_of : Worker C → WorkerSeat C
  seat_of w = w.seat

  -- the worker's part of the journal, and for how many lines it has room
  abbrev pub lines_of : Worker C → List Line
  lines_of w = w.lines.items

  abbrev pub lines_held : Worker C → ℕ
  lines_held w = vec_capacity w.lines

  -- the parcels that it has between its turns, and for how many it has room
  abbrev pub parcels_of : Worker C → List C
  parcels_of w = w.parcels.items

  abbrev pub parcels_held : Worker C → ℕ
  parcels_held w = vec_capacity w.parcels

  -- what was put into its own deque and taken by itself, and how many holds on it are out; which deque it is, and below which number
  -- it has room
  abbrev pub own_account : Worker C → Account
  own_account w = account_of w.deque

  abbrev pub place_of : Worker C → RowsId × Global
  place_of w = lies_at w.deque

  abbrev pub numbers_held : Worker C → ℕ
  numbers_held w = room_of w.deque

  -- what its seat did
  abbrev pub did : Worker C → View C
  did w = view_of w.seat

  -- how often it took a number, from its own deque and from the others
  abbrev pub took : Worker C → ℕ → ℕ
  took w x = times x (own_account w).taken + total (λ v. times x (taken_by v)) w.victims.items

  -- on which deques it has a hold
  abbrev pub holds_on : Worker C → List (RowsId × Global)
  holds_on w = map robs w.victims.items

-- the number of a line's task
abbrev pub number_in : Tasks → Line → ℕ
number_in g line = task_at g line.task.loop_no line.task.vector

-- a line of a task that this list of steps started and finished, with both stamps
pub record IsLineOf {C : Type 0} (g : Tasks) (worker : ℕ) (v : View C) (line : Line) : Type 0 where
  pub there : (line.task.loop_no < g.loops) × (line.task.vector < g.vectors)
  pub who : line.worker ≡ worker
  pub start : 0 < done_by (starts_at line.start (number_in g line)) v
  pub finish : 0 < done_by (finishes_at line.finish (number_in g line)) v
  pub spans : line.start < line.finish

-- one line for each task that this list won, and each stamp of the list once
pub record IsJournalOf {C : Type 0} (g : Tasks) (worker : ℕ) (v : View C) (lines : List Line) : Type 0 where
  pub each : (t : ℕ) → times t (map (number_in g) lines) ≡ done_by (wins t) v
  pub stamps : (n : ℕ) → stamped n lines ≡ done_by (stamps n) v
  pub each_line : All (IsLineOf g worker v) lines

-- A worker between its turns: its seat has nothing in hand and owes nothing. It put into its deque what it was dealt, and what its
-- arrivals brought down to the count 0. Its lines are those of the tasks that its seat won, and there is room for all that can
-- come.
pub record IsWorker {C Key : Type 0} (edge_of : C → ℕ) (key_of : C → Key) (id : TableId) (a : About C) (w : Worker C) : Type 0 where
  pub seat : IsSeat edge_of key_of id a (seat_of w)
  pub free : (hand_of (seat_of w) ≡ None) × (slots_of (seat_of w) ≡ [])
  pub number : (did w).numbers ≡ number_of w ∷ []
  pub put : (x : ℕ) → times x (own_account w).put ≡ times x (deque_of (opening (net_of a.tasks.value.tasks) a.workers) (number_of w))
      + done_by (zeroes (net_of a.tasks.value.tasks) x) (did w)
  pub once : (t : ℕ) → done_by (wins t) (did w) < 2
  pub within : (t : ℕ) → task_count a.tasks.value.tasks ≤ t → done_by (wins t) (did w) ≡ 0
  pub journal : IsJournalOf a.tasks.value.tasks (number_of w) (did w) (lines_of w)
  pub deque_room : numbers_held w ≡ task_count a.tasks.value.tasks
  pub lines_room : task_count a.tasks.value.tasks ≤ lines_held w
  pub parcels_room : (t : ℕ) → t < task_count a.tasks.value.tasks → (length (inward a.tasks.value.tasks t) ≤ parcels_held w)
      × (length (outward a.tasks.value.tasks t) ≤ parcels_held w)
  pub no_parcels : parcels_of w ≡ []

-- each number that it took it claimed, and nothing else
abbrev pub IsEven : {C : Type 0} → Net → Worker C → Type 0
IsEven net w = (x : ℕ) → x < net.tasks → done_by (claims x) (did w) ≡ took w x

-- what a worker's turns leave as it was: which worker it is, and which deques it has holds on
pub record IsSame {C : Type 0} (old new : Worker C) : Type 0 where
  pub number : number_of new ≡ number_of old
  pub place : place_of new ≡ place_of old
  pub lent : (own_account new).lent ≡ (own_account old).lent
  pub holds : holds_on new ≡ holds_on old

module _ {C Key : Type 0} (edge_of : C → ℕ) (key_of : C → Key) where
  -- a worker of this board
  abbrev pub IsWorkerOf : Board C Key → Worker C → Type 0
  IsWorkerOf b w = IsWorker edge_of key_of (name_of b) (about_of b) w

  -- The seats of a board of these tasks before its work: that at each place has this one number, and has done nothing.
  abbrev pub AreFreshSeats : Graph → TableId → About C → List (WorkerSeat C) → Type 0
  AreFreshSeats g id a seats = (a.tasks.value ≡ g) × (a.workers ≡ length seats) × AreFirstSeats edge_of key_of id a 0 seats

  -- A crew before its work: as many workers as the board has, in the order of their numbers. Each has a hold on each deque, on its
  -- own too, and no other holds are out.
  pub record IsCrew (id : TableId) (a : About C) (ws : List (Worker C)) : Type 0 where
    pub count : length ws ≡ a.workers
    pub workers : All (λ w. IsWorker edge_of key_of id a w) ws
    pub even : All (λ w. IsEven (net_of a.tasks.value.tasks) w) ws
    pub numbers : (i : ℕ) (d : Worker C) → i < length ws → number_of (slice_index_or ws i d) ≡ i
    pub holds : All (λ w. holds_on w ≡ map place_of ws) ws
    pub lent : All (λ w. (own_account w).lent ≡ length ws) ws
