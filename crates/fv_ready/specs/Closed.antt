-- What `close` is given, and what it finds (this project's profile).
use Rattle.std.specs.Prelude.{◌≡◌, ℕ, ◌*◌, ◌-◌, ◌<◌, ◌≤◌, suc, true, false, Bool, List, [], ◌∷◌, Option, Some, slice_index_or}
use mathlib.Core.Option.{some}
use lib.ListN.{get_elem?}
use Rattle.atomic_table.specs.Seated.{TableId}
use Rattle.fv_graph.specs.Tasks.{Tasks}
use Rattle.fv_graph.specs.TasksBeside.{task_count}
use Rattle.fv_graph.specs.Graph.{net_of, edges_of}
use Rattle.fv_ready.specs.declared.view.Deed.{Deed}
use Rattle.fv_ready.specs.declared.view.About.{About}
use Rattle.fv_ready.specs.Rule.{claim_word, wins, finishes}
use Rattle.fv_ready.specs.Promised.{Tells}
use Rattle.fv_ready.specs.declared.seat.WorkerSeat.{WorkerSeat}
use Rattle.fv_ready.specs.Seats.{IsSeat}

module _ {C Key : Type 0} (edge_of : C → ℕ) (key_of : C → Key) where
  -- seats of one board
  abbrev pub AreSeats : TableId → About C → List (WorkerSeat C) → Type 0
  AreSeats id a [] = Unit {0}
  AreSeats id a (s ∷ ss) = IsSeat edge_of key_of id a s × AreSeats id a ss

  -- the parcels of the edges from k on, with the board's key
  abbrev pub AreParcels : About C → ℕ → List C → Type 0
  AreParcels a k [] = Unit {0}
  AreParcels a k (p ∷ ps) = ((edge_of p ≡ k) × (key_of p ≡ key_of a.sample.value)) × AreParcels a (suc k) ps

-- the slots from k on hold these
abbrev pub AreSlots : {C : Type 0} → List (Option C) → ℕ → List C → Type 0
AreSlots slots k [] = Unit {0}
AreSlots slots k (p ∷ ps) = (get_elem? slots k ≡ some (Some p)) × AreSlots slots (suc k) ps

-- the slots below k are taken out, and those from k on are there
pub record IsTaken (filled : List Bool) (slots k : ℕ) : Type 0 where
  pub below : (e : ℕ) → e < k → slice_index_or filled e false ≡ false
  pub above : (e : ℕ) → k ≤ e → e < slots → slice_index_or filled e false ≡ true

-- a slot holds the parcel of its edge
pub record HasParcel {C Key : Type 0} (edge_of : C → ℕ) (key_of : C → Key) (a : About C) (slots : List (Option C)) (e : ℕ) : Type 0 where
  pub parcel : C
  pub at : get_elem? slots e ≡ some (Some parcel)
  pub edge : edge_of parcel ≡ e
  pub key : key_of parcel ≡ key_of a.sample.value

-- what the words and slots of a board that ended tell of the lists of all seats, in which f stands `lists f` times
pub record Ended {C Key : Type 0} (edge_of : C → ℕ) (key_of : C → Key) (a : About C) (g : Tasks) (words : List ℕ) (slots : List (Option C))
    (lists : (Deed → ℕ) → ℕ) : Type 0 where
  -- what the rule says of them
  pub told : Tells (net_of g) lists
  -- all tasks are done exactly where two stamps for each were drawn
  pub finished : (w : ℕ) → get_elem? words 0 ≡ some w → w ≡ 2 * task_count g → (t : ℕ) → t < task_count g → lists (finishes t) ≡ 1
  pub stamps_of : (w : ℕ) → get_elem? words 0 ≡ some w → ((t : ℕ) → t < task_count g → lists (finishes t) ≡ 1) → w ≡ 2 * task_count g
  -- a task is taken exactly where its claim word is set
  pub untaken : (t : ℕ) → t < task_count g → get_elem? words (claim_word (task_count g) t) ≡ some 0 → lists (wins t) ≡ 0
  pub claim_of : (t : ℕ) → t < task_count g → lists (wins t) ≡ 0 → get_elem? words (claim_word (task_count g) t) ≡ some 0
  -- then the exit edges' slots hold their parcels, and where no task was taken the entry edges' slots do
  pub exits : ((t : ℕ) → t < task_count g → lists (finishes t) ≡ 1) → (e : ℕ) → edges_of g - g.loops ≤ e → e < edges_of g → HasParcel edge_of key_of a slots e
  pub entries : ((t : ℕ) → t < task_count g → lists (wins t) ≡ 0) → (e : ℕ) → e < g.loops → HasParcel edge_of key_of a slots e
