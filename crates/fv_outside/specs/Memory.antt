-- What a desk in memory means (this project's profile).
use Rattle.std.specs.Prelude.{ℕ, ◌+◌, ◌%◌, ◌^◌, max, nat_le, Bool, true, None, List, [], ◌∷◌, ◌++◌, length, drop}
use Rattle.fv_outside.specs.headline.Requests.{Request}
use Rattle.fv_outside.specs.headline.Desk.{File, DeskState, last_count}
use Rattle.fv_outside.specs.Desk.{raised, fails_now}
use Rattle.fv_base.specs.declared.role.Role.{Role}
use Rattle.fv_base.specs.declared.role.Role.TheVariants.{Program, Input, Controls, Output, Report}

-- all that a desk in memory means for one role
pub record RoleMemory : Type 0 where
  -- the bytes that are left to read
  pub left : List ℕ
  pub written : List ℕ
  -- how many bytes may be written
  pub room : ℕ
  -- the most bytes that one call reads or writes
  pub most : ℕ
  -- how many calls there were
  pub calls : ℕ
  -- the numbers of the calls that fail
  pub failing : List ℕ
  pub faults : ℕ
  pub begins : ℕ

-- the files, what it was asked to begin, and what is kept for each role
pub record Memory : Type 0 where
  pub files : List File
  pub requests : List Request
  pub program : RoleMemory
  pub input : RoleMemory
  pub controls : RoleMemory
  pub output : RoleMemory
  pub report : RoleMemory

-- nothing was put in, written or read
abbrev pub no_memory : RoleMemory
no_memory = record { left = []; written = []; room = 0; most = last_count; calls = 0; failing = []; faults = 0; begins = 0 }

-- a desk without files
abbrev pub empty_memory : Memory
empty_memory = record { files = []; requests = []; program = no_memory; input = no_memory; controls = no_memory; output = no_memory; report = no_memory }

-- what is kept for the role
abbrev pub memory_of : Memory → Role → RoleMemory
memory_of m Program = m.program
memory_of m Input = m.input
memory_of m Controls = m.controls
memory_of m Output = m.output
memory_of m Report = m.report

-- a desk with this kept for the role, and all else as it was
abbrev pub with_memory : Memory → Role → RoleMemory → Memory
with_memory m Program d = record m { program = d }
with_memory m Input d = record m { input = d }
with_memory m Controls d = record m { controls = d }
with_memory m Output d = record m { output = d }
with_memory m Report d = record m { report = d }

-- a desk where f changes what is kept for the role, and all else is as it was
abbrev pub memory_after : Memory → Role → (RoleMemory → RoleMemory) → Memory
memory_after m role f = with_memory m role (f (memory_of m role))

-- it was asked for this, and nothing else happened
abbrev pub asked : Request → Memory → Memory
asked request m = record m { requests = m.requests ++ request ∷ [] }

-- as a desk, it tells its bytes
abbrev pub memory_state : Memory → DeskState
memory_state m = record {
  tells = true;
  files = m.files;
  left = λ r. (memory_of m r).left;
  written = λ r. (memory_of m r).written;
  room = λ r. (memory_of m r).room;
  calls = λ r. (memory_of m r).calls;
  failing = λ r. (memory_of m r).failing;
  faults = λ r. (memory_of m r).faults;
  begins = λ r. (memory_of m r).begins;
  requests = m.requests;
  beneath = None;
}

-- the call that comes now stands on the list of those that fail
abbrev pub is_failing : RoleMemory → Bool
is_failing d = fails_now d.calls d.failing

-- no byte more may be written
abbrev pub is_full : RoleMemory → Bool
is_full d = nat_le d.room (length d.written)

-- at least this many bytes may be written in all
abbrev pub after_room : ℕ → RoleMemory → RoleMemory
after_room bytes d = record d { room = max d.room bytes }

-- each call moves at most this many bytes
abbrev pub after_pieces : ℕ → RoleMemory → RoleMemory
after_pieces size d = record d { most = size }

-- one more call will fail
abbrev pub after_fail : ℕ → RoleMemory → RoleMemory
after_fail call d = record d { failing = d.failing ++ call ∷ [] }

-- a call was counted that failed
abbrev pub after_fault : RoleMemory → RoleMemory
after_fault d = record d { calls = raised d.calls; faults = raised d.faults }

-- a call was counted that made these bytes the ones to read
abbrev pub after_begin_read : List ℕ → RoleMemory → RoleMemory
after_begin_read bytes d = record d { calls = raised d.calls; left = bytes }

-- a call was counted that took n bytes
abbrev pub after_read : ℕ → RoleMemory → RoleMemory
after_read n d = record d { calls = raised d.calls; left = drop n d.left }

-- a call was counted that began to write
abbrev pub after_begin_write : RoleMemory → RoleMemory
after_begin_write d = record d { calls = raised d.calls; written = []; begins = (d.begins + 1) % 2 ^ 64 }

-- a call was counted that appended these bytes
abbrev pub after_write : List ℕ → RoleMemory → RoleMemory
after_write bytes d = record d { calls = raised d.calls; written = d.written ++ bytes }
