-- How the gate in memory keeps what it was told: the pairs and lines of all blocks one after another.
use Rattle.std.specs.Prelude.{ℕ, ◌-◌, ◌≤◌, Bool, List, length, map, All, Option, None, Some, slice_range, if◌then◌else◌}
use Rattle.fv_outside.specs.declared.tasks.Reads.{Reads}
use Rattle.fv_outside.specs.declared.gate.Line.{Line}
use Rattle.fv_outside.specs.declared.recorder.KeptBlock.{KeptBlock}
use Rattle.fv_outside.specs.headline.Journal.{BlockEntry, Told}

-- what was told of a block
abbrev pub entry_of : List Reads → List Line → KeptBlock → BlockEntry
entry_of reads lines block = record {
  tasks = record { loops = block.loops; vectors = block.vectors; reads = slice_range reads block.reads.start block.reads.end };
  lines = slice_range lines block.lines.start block.lines.end;
}

-- what a recorder was told, and the room that it has left, where it tells them
abbrev pub told_of : (tells : Bool) → List KeptBlock → List Reads → List Line → (most_blocks most_lines : ℕ) → Option Told
told_of tells blocks reads lines most_blocks most_lines =
    if tells then Some (record {
      entries = map (entry_of reads lines) blocks;
      room = record { calls = most_blocks - length blocks; lines = most_lines - length lines; pairs = most_lines - length reads };
    }) else None

-- the block's pairs and lines are among the first ones of these numbers
pub record IsAmong (reads lines : ℕ) (block : KeptBlock) : Type 0 where
  pub reads_rise : block.reads.start ≤ block.reads.end
  pub reads_end : block.reads.end ≤ reads
  pub lines_rise : block.lines.start ≤ block.lines.end
  pub lines_end : block.lines.end ≤ lines

-- each block's pairs and lines are among those that were kept
abbrev pub IsRecorded : List KeptBlock → List Reads → List Line → Type 0
IsRecorded blocks reads lines = All (IsAmong (length reads) (length lines)) blocks
