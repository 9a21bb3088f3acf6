-- How a run is cut into blocks, and what a gate is told of them (this project's profile).
use Rattle.std.specs.Prelude.{◌≡◌, ℕ, ◌+◌, ◌-◌, ◌*◌, ◌<◌, ◌≤◌, nat_lt, if◌then◌else◌, min, List, [], ◌∷◌, ◌++◌, sum, map, All, Option, Some}
use Rattle.std.specs.Prelude.{IfSome, IsSome}
use Rattle.fv_outside.specs.declared.tasks.Reads.{Reads}
use Rattle.fv_outside.specs.declared.gate.Line.{Line}
use Rattle.fv_outside.specs.headline.Journal.{BlockEntry, Room, Told, IsOrdered}
use Rattle.fv_control.specs.declared.script.Change.{Change}
use Rattle.fv_engine.specs.Block.{vectors_of}

-- how many frames lie from frame f to the next change, or the most where that is less
abbrev pub to_change : List Change → (f most : ℕ) → ℕ
to_change [] f most = most
to_change (c ∷ cs) f most = to_change cs f (if nat_lt f c.frame then min most (c.frame - f) else most)

-- The length of a block that begins at frame f: the block size, the frames that are left or the way to the next change, whichever
-- is least.
abbrev pub block_at : (block total : ℕ) → List Change → (f : ℕ) → ℕ
block_at block total changes f = to_change changes f (min block (total - f))

-- the lengths of the blocks from frame f up to frame g
abbrev pub AreBlocks : (block total : ℕ) → List Change → (f g : ℕ) → List ℕ → Type 0
AreBlocks block total changes f g [] = f ≡ g
AreBlocks block total changes f g (n ∷ ns) = (f < total) × (n ≡ block_at block total changes f) × AreBlocks block total changes (f + n) g ns

-- What is told of blocks of these lengths: one entry for each, in order, all with the same loops and reads. Each has a journal in
-- order, in which each line is of one of the workers.
abbrev pub AreEntries : (workers loops : ℕ) → (reads : List Reads) → (vector : ℕ) → List ℕ → List BlockEntry → Type 0
AreEntries workers loops reads vector [] [] = Unit {0}
AreEntries workers loops reads vector [] (e ∷ es) = ⊥
AreEntries workers loops reads vector (n ∷ ns) [] = ⊥
AreEntries workers loops reads vector (n ∷ ns) (e ∷ es) =
    (e.tasks ≡ record { loops = loops; vectors = vectors_of n vector; reads = reads }) × IsOrdered e.tasks e.lines
    × All (λ (line : Line). line.worker < workers) e.lines × AreEntries workers loops reads vector ns es

-- the loops that ran: each loop once for each vector
abbrev pub loop_runs_of : (loops vector : ℕ) → List ℕ → ℕ
loop_runs_of loops vector ns = sum (map (λ n. loops * vectors_of n vector) ns)

-- Blocks of these lengths ran, by this many workers, of these loops and reads. Where the gate still tells its list, it was told
-- just them, in order.
abbrev pub RanBlocks : (workers loops : ℕ) → (reads : List Reads) → (vector : ℕ) → List ℕ → (old new : Option Told) → Type 0
RanBlocks workers loops reads vector ns old new =
    IfSome new (λ after. (before : Told) × (old ≡ Some before) × (entries : List BlockEntry) × AreEntries workers loops reads vector ns entries
    × (after.entries ≡ before.entries ++ entries))

-- a gate has room for this many calls, lines and pairs
pub record HasRoomForRun (room : Room) (blocks runs pairs_told : ℕ) : Type 0 where
  pub calls : blocks ≤ room.calls
  pub lines : runs ≤ room.lines
  pub pairs : pairs_told ≤ room.pairs

-- a gate that tells its list, and has room for this many calls, lines and pairs, still tells it
abbrev pub StillTells : (blocks runs pairs_told : ℕ) → (old new : Option Told) → Type 0
StillTells blocks runs pairs_told old new = IfSome old (λ t. HasRoomForRun t.room blocks runs pairs_told → IsSome new)
