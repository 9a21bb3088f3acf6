-- What calls say beside `headline/Journal`: what a gate is told of a block, and when the block's journal is in order (this project's profile).
use Rattle.std.specs.Prelude.{ℕ, ◌+◌, ◌-◌, ◌≤◌, Bool, ◌&&◌, nat_le, [], ◌∷◌, ◌++◌, length, Option}
use Rattle.std.specs.Prelude.{None, Some, slice_index_or, if◌then◌else◌}
use Rattle.fv_outside.specs.headline.Journal.{BlockEntry, Room, Told}

-- a block of no tasks
abbrev pub no_entry : BlockEntry
no_entry = record { tasks = record { loops = 0; vectors = 0; reads = [] }; lines = [] }

-- the entry is within the room
pub record HasRoom (room : Room) (entry : BlockEntry) : Type 0 where
  pub calls : 1 ≤ room.calls
  pub lines : length entry.lines ≤ room.lines
  pub pairs : length entry.tasks.reads ≤ room.pairs

-- what is left of the room after it
abbrev pub room_after : Room → BlockEntry → Room
room_after room entry = record {
  calls = room.calls - 1;
  lines = room.lines - length entry.lines;
  pairs = room.pairs - length entry.tasks.reads;
}

-- the entry is within the room, as a test
abbrev pub has_room : Room → BlockEntry → Bool
has_room room entry = nat_le 1 room.calls && nat_le (length entry.tasks.reads) room.pairs && nat_le (length entry.lines) room.lines

-- what a gate tells after one more block: its entries and that one where it fits, and else nothing any more
abbrev pub told_after : Option Told → BlockEntry → Option Told
told_after None entry = None
told_after (Some t) entry = if has_room t.room entry then Some (record { entries = t.entries ++ entry ∷ []; room = room_after t.room entry }) else None

-- block i of those that are told
abbrev pub told_at : Option Told → ℕ → BlockEntry
told_at None i = no_entry
told_at (Some t) i = slice_index_or t.entries i no_entry
