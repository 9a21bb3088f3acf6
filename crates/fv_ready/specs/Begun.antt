-- What `begin` is given, and what it makes: the slots and the seats of a new board (this project's profile).
use Rattle.std.specs.Prelude.{◌≡◌, ℕ, ◌-◌, ◌<◌, ◌≤◌, suc, List, [], ◌∷◌, ◌++◌, map, replicate, length, Option, Some, None, slice_index_or, vec_capacity}
use Rattle.std.specs.Global.{Vec}
use Rattle.atomic_table.specs.Seated.{TableId}
use Rattle.fv_ready.specs.declared.view.About.{About}
use Rattle.fv_ready.specs.declared.seat.WorkerSeat.{WorkerSeat}
use Rattle.fv_ready.specs.Seats.{view_of, slots_of, hand_of, IsSeat}

module _ {C : Type 0} where
  -- the slots of a new board: the entries, and after them nothing
  abbrev pub first_slots : ℕ → List C → List (Option C)
  first_slots edges entries = map Some entries ++ replicate (edges - length entries) None

  -- the parcels that stand in a list of slots
  abbrev pub parcels_of : List (Option C) → List C
  parcels_of [] = []
  parcels_of (None ∷ xs) = parcels_of xs
  parcels_of (Some x ∷ xs) = x ∷ parcels_of xs

-- empty lists, each with room for this many numbers
abbrev pub AreRoomy : ℕ → List (Vec ℕ) → Type 0
AreRoomy room [] = Unit {0}
AreRoomy room (v ∷ vs) = ((v.items ≡ []) × (room ≤ vec_capacity v)) × AreRoomy room vs

-- a seat of this board with one number, that has done nothing and has no slot
pub record IsNewSeat {C : Type 0} (id : TableId) (about : About C) (room k : ℕ) (s : WorkerSeat C) : Type 0 where
  pub table : s.seat.table_id ≡ id
  pub view : view_of s ≡ record { board = Some about; numbers = k ∷ []; deeds = [] }
  pub slots : slots_of s ≡ []
  pub hand : hand_of s ≡ None
  pub edges : s.edges.items ≡ []
  pub roomy : room ≤ vec_capacity s.edges

-- the seats have the numbers from k on
abbrev pub AreNewSeats : {C : Type 0} → TableId → About C → ℕ → ℕ → List (WorkerSeat C) → Type 0
AreNewSeats id about room k [] = Unit {0}
AreNewSeats id about room k (s ∷ ss) = IsNewSeat id about room k s × AreNewSeats id about room (suc k) ss

-- what a caller of `begin` is told of its seats: seat k has the number k alone, and has neither done anything nor any slot
pub record IsFirstSeat {C Key : Type 0} (edge_of : C → ℕ) (key_of : C → Key) (id : TableId) (about : About C) (k : ℕ) (s : WorkerSeat C) : Type 0 where
  pub seat : IsSeat edge_of key_of id about s
  pub view : view_of s ≡ record { board = Some about; numbers = k ∷ []; deeds = [] }
  pub slots : slots_of s ≡ []
  pub hand : hand_of s ≡ None

-- the seats have the numbers from k on
abbrev pub AreFirstSeats : {C Key : Type 0} → (C → ℕ) → (C → Key) → TableId → About C → ℕ → List (WorkerSeat C) → Type 0
AreFirstSeats edge_of key_of id about k [] = Unit {0}
AreFirstSeats edge_of key_of id about k (s ∷ ss) = IsFirstSeat edge_of key_of id about k s × AreFirstSeats edge_of key_of id about (suc k) ss

-- entry k is the parcel of edge k, and all have the key of the first
pub record AreEntries {C Key : Type 0} (edge_of : C → ℕ) (key_of : C → Key) (entries : List C) : Type 0 where
  pub edges : (k : ℕ) (d : C) → k < length entries → edge_of (slice_index_or entries k d) ≡ k
  pub keys : (k : ℕ) (d : C) → k < length entries → key_of (slice_index_or entries k d) ≡ key_of (slice_index_or entries 0 d)
