-- Workers while their holds go back, and after it (this project's profile).
use Rattle.std.specs.Prelude.{◌≡◌, ◌≢◌, ℕ, ◌+◌, ◌<◌, ◌≤◌, leb, List, [], map, length, take, get_or}
use Rattle.std.specs.Global.{Global}
use Rattle.atomic_blocks.specs.Lent.{RowsId}
use Rattle.fv_outside.specs.headline.Tasks.{bit, total}
use Rattle.fv_steal.specs.declared.worker.Worker.{Worker}
use Rattle.fv_steal.specs.Crews.{number_of, seat_of, own_account, place_of, numbers_held, took, holds_on}

-- by worker, where its deque is
abbrev pub places : {C : Type 0} → List (Worker C) → List (RowsId × Global)
places ws = map place_of ws

-- worker w has a hold on each deque, and each deque has holds out
pub record IsBefore {C : Type 0} (w : ℕ) (ws : List (Worker C)) : Type 0 where
  pub holds : (d : Worker C) → holds_on (get_or ws w d) ≡ places ws
  pub lent : (i : ℕ) (d : Worker C) → i < length ws → 0 < (own_account (get_or ws i d)).lent

-- neither its seat nor what it ran
abbrev pub SameRest : {C : Type 0} → (old new : Worker C) → Type 0
SameRest old new = (seat_of new ≡ seat_of old) × (number_of new ≡ number_of old) × (new.lines ≡ old.lines) × (new.parcels ≡ old.parcels)

-- what a worker keeps while a number is taken, and while holds go back
pub record Keeps {C : Type 0} (old new : Worker C) : Type 0 where
  pub put : (own_account new).put ≡ (own_account old).put
  pub room : numbers_held new ≡ numbers_held old
  pub place : place_of new ≡ place_of old
  pub rest : SameRest old new

-- worker w has given back all holds but those that are left
pub record HasGiven {C : Type 0} (w left : ℕ) (old new : List (Worker C)) : Type 0 where
  pub count : length new ≡ length old
  pub took_all : (x : ℕ) → total (λ u. took u x) new ≡ total (λ u. took u x) old
  pub keeps : (i : ℕ) (d : Worker C) → i < length old → Keeps (get_or old i d) (get_or new i d)
  pub others : (i : ℕ) (d : Worker C) → i < length old → i ≢ w → (get_or new i d).victims ≡ (get_or old i d).victims
  pub mine : (d : Worker C) → holds_on (get_or new w d) ≡ take left (places old)
  pub lent : (i : ℕ) (d : Worker C) → i < length old → (own_account (get_or new i d)).lent + bit (leb left i) ≡ (own_account (get_or old i d)).lent

-- all workers have a hold on each deque, and no other is out
pub record HoldAll {C : Type 0} (ws : List (Worker C)) : Type 0 where
  pub holds : (i : ℕ) (d : Worker C) → i < length ws → holds_on (get_or ws i d) ≡ places ws
  pub lent : (i : ℕ) (d : Worker C) → i < length ws → (own_account (get_or ws i d)).lent ≡ length ws

-- the first k workers gave their holds back
pub record HaveGiven {C : Type 0} (k : ℕ) (old new : List (Worker C)) : Type 0 where
  pub count : length new ≡ length old
  pub took_all : (x : ℕ) → total (λ u. took u x) new ≡ total (λ u. took u x) old
  pub keeps : (i : ℕ) (d : Worker C) → i < length old → Keeps (get_or old i d) (get_or new i d)
  pub given : (i : ℕ) (d : Worker C) → i < length old → i < k → (get_or new i d).victims.items ≡ []
  pub holds : (i : ℕ) (d : Worker C) → i < length old → k ≤ i → holds_on (get_or new i d) ≡ places old
  pub lent : (i : ℕ) (d : Worker C) → i < length old → (own_account (get_or new i d)).lent + k ≡ length old
