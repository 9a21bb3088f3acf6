-- What a desk means: its files, the bytes of each role, its counts, and what it was asked for (this project's profile).
use Rattle.std.specs.Prelude.{◌≡◌, ℕ, ◌-◌, ◌^◌, ◌<◌, ◌≤◌, suc, min, Bool, IsTrue, List, [], ◌∷◌, All, Option, Some, None, bytes_eq}
use Rattle.std.specs.Prelude.{if◌then◌else◌}
use Rattle.std.specs.Borrow.{GName}
use Rattle.fv_base.specs.declared.role.Role.{Role}
use Rattle.fv_outside.specs.headline.Requests.{Request}

-- a file: its name and its bytes
pub record File : Type 0 where
  pub name : List ℕ
  pub bytes : List ℕ

-- the bytes of the last file of this name, which stands for those before it
abbrev pub newest : List ℕ → Option (List ℕ) → List File → Option (List ℕ)
newest name found [] = found
newest name found (f ∷ fs) = newest name (if bytes_eq f.name name then Some f.bytes else found) fs

-- the bytes of the file of this name, if there is one
abbrev pub file_named : List ℕ → List File → Option (List ℕ)
file_named name files = newest name None files

-- What a desk means at one moment. Where it does not tell its bytes, the files, the bytes, the room and the calls mean
-- nothing.
pub record DeskState : Type 0 where
  -- whether it tells its files and bytes
  pub tells : Bool
  pub files : List File
  -- the bytes of a role that are left to read
  pub left : Role → List ℕ
  -- the bytes that were written of a role
  pub written : Role → List ℕ
  -- how many bytes may be written of a role
  pub room : Role → ℕ
  -- how many calls of a role there were, up to the last value of a count
  pub calls : Role → ℕ
  -- the numbers of the calls of a role that fail
  pub failing : Role → List ℕ
  -- how many faults of a role there were
  pub faults : Role → ℕ
  -- how often the writing of a role began, modulo 2 ^ 64
  pub begins : Role → ℕ
  -- what it was asked to begin, in order, whether it could or not
  pub requests : List Request
  -- the reference to another desk that it holds, if it stands over one
  pub beneath : Option GName

-- A call leaves as they are: whether the desk tells, what it stands over, its files, its room and what will fail. No count of calls
-- or faults falls.
pub record GoesOn (old new : DeskState) : Type 0 where
  pub tells : new.tells ≡ old.tells
  pub beneath : new.beneath ≡ old.beneath
  pub files : IsTrue old.tells → new.files ≡ old.files
  pub room : IsTrue old.tells → (r : Role) → new.room r ≡ old.room r
  pub failing : IsTrue old.tells → (r : Role) → new.failing r ≡ old.failing r
  pub calls : IsTrue old.tells → (r : Role) → old.calls r ≤ new.calls r
  pub faults : (r : Role) → old.faults r ≤ new.faults r

-- the last value of a count
abbrev pub last_count : ℕ
last_count = 2 ^ 64 - 1

-- no call of the role from now on is one that fails
abbrev pub IsUnfailing : Role → DeskState → Type 0
IsUnfailing role desk = All (λ n. n < desk.calls role) (desk.failing role)

-- a count has risen from old to new, or stands at its last value
abbrev pub HasRisen : (old new : ℕ) → Type 0
HasRisen old new = min (suc old) last_count ≤ new

-- a fault of the role is counted between these states
abbrev pub HasFault : Role → (old new : DeskState) → Type 0
HasFault role old new = HasRisen (old.faults role) (new.faults role)

-- no fault was counted
abbrev pub KeepsFaults : (old new : DeskState) → Type 0
KeepsFaults old new = (r : Role) → new.faults r ≡ old.faults r
