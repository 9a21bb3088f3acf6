-- What a drawer of a desk in memory holds: all that is kept of one role, but for the files (this project's profile).
use Rattle.std.specs.Prelude.{◌≡◌, ℕ, ◌<◌, ◌≤◌, List, [], Option, Some, None, drop, slice_index_or}
use Rattle.fv_outside.specs.headline.Desk.{File, last_count}
use Rattle.fv_outside.specs.Desk.{raised}
use Rattle.fv_outside.specs.declared.drawer.Reading.{Reading}

pub record Kept : Type 0 where
  -- where the role reads
  pub reading : Option Reading
  pub written : List ℕ
  -- how many bytes may be written
  pub room : ℕ
  -- the most bytes that one call reads or writes
  pub most : ℕ
  -- how many calls there were
  pub calls : ℕ
  -- the numbers of the calls that fail
  pub failing : List ℕ
  pub faults : ℕ
  pub begins : ℕ

-- nothing was put in
abbrev pub nothing_kept : Kept
nothing_kept = record { reading = None; written = []; room = 0; most = last_count; calls = 0; failing = []; faults = 0; begins = 0 }

-- the bytes of the file at a place of the list
abbrev pub bytes_at : List File → ℕ → List ℕ
bytes_at files i = (slice_index_or files i (record { name = []; bytes = [] })).bytes

-- the bytes that are left to read
abbrev pub left_at : List File → Option Reading → List ℕ
left_at files None = []
left_at files (Some r) = drop r.taken (bytes_at files r.file)

-- a call was counted
abbrev pub called : Kept → Kept
called k = record k { calls = raised k.calls }

-- a call was counted that failed
abbrev pub faulted : Kept → Kept
faulted k = record k { calls = raised k.calls; faults = raised k.faults }

-- a call of the role: no count falls, and its room and what will fail stay
pub record DrawerGoesOn (old new : Kept) : Type 0 where
  pub calls : old.calls ≤ new.calls
  pub faults : old.faults ≤ new.faults
  pub room : new.room ≡ old.room
  pub failing : new.failing ≡ old.failing

-- the drawer reads one of the first n files
abbrev pub ReadsWithin : ℕ → Kept → Type 0
ReadsWithin n k = (r : Reading) → k.reading ≡ Some r → r.file < n
