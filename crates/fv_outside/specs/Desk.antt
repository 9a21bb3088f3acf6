-- What calls say beside `headline/Desk`: what a desk means: its files, the bytes of each role, its counts, and what it was asked for (this project's profile).
use Rattle.std.specs.Prelude.{◌≡◌, ◌≢◌, ℕ, ◌==◌, suc, min, Bool, IsTrue, List, ◌++◌}
use Rattle.std.specs.List.{list_any}
use denote.Ref.{Bor}
use Rattle.std.specs.Prelude.{flat_map}
use Rattle.fv_base.specs.declared.role.Role.{Role}
use Rattle.fv_outside.specs.headline.Desk.{DeskState, GoesOn, last_count}

-- one more, up to the last value of a count
abbrev pub raised : ℕ → ℕ
raised n = min (suc n) last_count

-- the call that comes now stands on the list
abbrev pub fails_now : (calls : ℕ) (failing : List ℕ) → Bool
fails_now calls failing = list_any (λ n. n == calls) failing

-- the next call of the role fails
abbrev pub fails_next : Role → DeskState → Bool
fails_next role desk = fails_now (desk.calls role) (desk.failing role)

-- a call of the role was counted, and of other roles neither a call nor a fault
pub record CountsCall (role : Role) (old new : DeskState) : Type 0 where
  pub call : IsTrue old.tells → new.calls role ≡ raised (old.calls role)
  pub other_calls : IsTrue old.tells → (r : Role) → r ≢ role → new.calls r ≡ old.calls r
  pub other_faults : (r : Role) → r ≢ role → new.faults r ≡ old.faults r

-- no fault of any role but one was counted
abbrev pub KeepsFaultsBut : Role → (old new : DeskState) → Type 0
KeepsFaultsBut role old new = (r : Role) → r ≢ role → new.faults r ≡ old.faults r

-- the bytes left to read are the same, where they are told
abbrev pub KeepsLeft : (old new : DeskState) → Type 0
KeepsLeft old new = IsTrue old.tells → (r : Role) → new.left r ≡ old.left r

-- the bytes left to read of every role but one are the same, where they are told
abbrev pub KeepsLeftBut : Role → (old new : DeskState) → Type 0
KeepsLeftBut role old new = IsTrue old.tells → (r : Role) → r ≢ role → new.left r ≡ old.left r

-- the bytes written are the same, where they are told
abbrev pub KeepsWritten : (old new : DeskState) → Type 0
KeepsWritten old new = IsTrue old.tells → (r : Role) → new.written r ≡ old.written r

-- the bytes written of every role but one are the same, where they are told
abbrev pub KeepsWrittenBut : Role → (old new : DeskState) → Type 0
KeepsWrittenBut role old new = IsTrue old.tells → (r : Role) → r ≢ role → new.written r ≡ old.written r

-- no writing began
abbrev pub KeepsBegins : (old new : DeskState) → Type 0
KeepsBegins old new = (r : Role) → new.begins r ≡ old.begins r

-- nothing that was read or written changed
pub record KeepsBytes (old new : DeskState) : Type 0 where
  pub left : KeepsLeft old new
  pub written : KeepsWritten old new
  pub begins : KeepsBegins old new

-- nothing was written, and no writing began
pub record KeepsQuiet (old new : DeskState) : Type 0 where
  pub goes_on : GoesOn old new
  pub written : KeepsWritten old new
  pub begins : KeepsBegins old new

-- these bytes were appended to those written of the role, and nothing else changed but the counts of its calls and faults
pub record Appends (role : Role) (bytes : List ℕ) (old new : DeskState) : Type 0 where
  pub goes_on : GoesOn old new
  pub begins : KeepsBegins old new
  pub requests : new.requests ≡ old.requests
  pub other_faults : KeepsFaultsBut role old new
  pub others : KeepsWrittenBut role old new
  pub left : KeepsLeft old new
  pub appended : IsTrue old.tells → new.written role ≡ old.written role ++ bytes

-- these bytes were taken from the front of those left of the role, and nothing else changed but such counts
pub record Takes (role : Role) (bytes : List ℕ) (old new : DeskState) : Type 0 where
  pub goes_on : GoesOn old new
  pub written : KeepsWritten old new
  pub begins : KeepsBegins old new
  pub requests : new.requests ≡ old.requests
  pub other_faults : KeepsFaultsBut role old new
  pub others : KeepsLeftBut role old new
  pub taken : IsTrue old.tells → old.left role ≡ bytes ++ new.left role

-- some bytes were
pub record TakesSome (role : Role) (old new : DeskState) : Type 0 where
  pub bytes : List ℕ
  pub takes : Takes role bytes old new

-- pieces of bytes, one after another
abbrev pub joined : List (Bor (List ℕ)) → List ℕ
joined pieces = flat_map (λ piece. piece.now) pieces
