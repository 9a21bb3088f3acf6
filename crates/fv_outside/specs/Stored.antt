-- How a desk in memory is stored: its files, and a drawer for each role (this project's profile).
use Rattle.std.specs.Prelude.{◌≡◌, ℕ, List, length, All, slice_index_or}
use Rattle.fv_outside.specs.headline.Requests.{Request}
use Rattle.fv_outside.specs.headline.Desk.{File}
use Rattle.fv_outside.specs.Drawer.{Kept, nothing_kept, left_at, ReadsWithin}
use Rattle.fv_outside.specs.Memory.{RoleMemory, Memory}

-- what a drawer means beside the files
abbrev pub shown : List File → Kept → RoleMemory
shown files k = record {
  left = left_at files k.reading;
  written = k.written;
  room = k.room;
  most = k.most;
  calls = k.calls;
  failing = k.failing;
  faults = k.faults;
  begins = k.begins;
}

-- what the drawer at a place means
abbrev pub shown_at : List File → List Kept → ℕ → RoleMemory
shown_at files ks i = shown files (slice_index_or ks i nothing_kept)

-- what the files, the drawers and the requests mean
abbrev pub memory_with : List File → List Kept → List Request → Memory
memory_with files ks requests = record {
  files = files;
  requests = requests;
  program = shown_at files ks 0;
  input = shown_at files ks 1;
  controls = shown_at files ks 2;
  output = shown_at files ks 3;
  report = shown_at files ks 4;
}

-- there is a drawer for each role, and each reads one of the files
pub record IsStored (files : List File) (ks : List Kept) : Type 0 where
  pub five : length ks ≡ 5
  pub within : All (ReadsWithin (length files)) ks
