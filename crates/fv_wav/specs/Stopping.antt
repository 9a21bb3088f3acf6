-- How readers of a WAV file go on and stop.
use Rattle.std.specs.Prelude.{◌≡◌, ℕ, ◌+◌, ◌^◌, ◌<◌, ◌≤◌, true, IsTrue, List, length, IfSome, Result, Ok}
use Rattle.fv_base.specs.declared.limits.TheConstants.{MOST_CHANNELS}
use Rattle.fv_outside.specs.headline.Desk.{DeskState, HasFault, KeepsFaults, IsUnfailing}
use Rattle.fv_base.specs.declared.role.Role.TheVariants.{Input}
use Rattle.fv_pcm.specs.Words.{is_sample_width}
use Rattle.fv_outside.specs.Desk.{Takes, TakesSome}
use Rattle.fv_wav.specs.headline.Reading.{rest_of, walk, unknown_size}
use Rattle.fv_wav.specs.inner.Reading.{chunk_at}
use Rattle.fv_wav.specs.declared.head.Head.{Head}
use Rattle.fv_wav.specs.declared.head.Format.{Format}
use Rattle.fv_wav.specs.declared.head.Kind.{Kind}
use Rattle.fv_wav.specs.declared.chunks.Walk.{Walk}
use Rattle.fv_wav.specs.declared.chunks.NextChunk.{NextChunk}
use Rattle.fv_wav.specs.declared.chunks.NextChunk.TheVariants as next_chunk
use Rattle.fv_wav.specs.declared.refusal.WaveRefusal.{WaveRefusal}
use Rattle.fv_wav.specs.declared.refusal.WaveRefusal.TheVariants.{ReadFault, NotWave, WaveTruncated, WaveFormat, WaveChunks}

-- The next n bytes of the input were taken, and where the desk tells its bytes, they say this.
pub record Passes (n : ℕ) (says : Type 0) (old new : DeskState) : Type 0 where
  pub bytes : List ℕ
  pub long : length bytes ≡ n
  pub takes : Takes Input bytes old new
  pub steady : KeepsFaults old new
  pub told : IsTrue old.tells → says

-- A fault of the input: the desk counted it, and where it tells when it fails, a call that fails was still to come.
pub record IsFaultOfInput (old new : DeskState) : Type 0 where
  pub counted : HasFault Input old new
  pub due : IsTrue old.tells → IsUnfailing Input old → ⊥

-- No fault: where the desk tells its bytes, they say this.
pub record IsSaid (says : Type 0) (old new : DeskState) : Type 0 where
  pub steady : KeepsFaults old new
  pub told : IsTrue old.tells → says

-- The cause of a refusal: a fault that the desk counted, or what the bytes say.
abbrev pub IsCause : WaveRefusal → (says : Type 0) → (old new : DeskState) → Type 0
IsCause (ReadFault role) says old new = (role ≡ Input) × IsFaultOfInput old new
IsCause (NotWave place) says old new = IsSaid says old new
IsCause (WaveTruncated place) says old new = IsSaid says old new
IsCause (WaveFormat place) says old new = IsSaid says old new
IsCause (WaveChunks place) says old new = IsSaid says old new

-- A reader stopped: some bytes of the input were taken, nothing else changed, and the refusal has its cause.
pub record Stops (says : Type 0) (old new : DeskState) (refusal : WaveRefusal) : Type 0 where
  pub some : TakesSome Input old new
  pub cause : IsCause refusal says old new

-- the ranges of a format's fields
pub record IsFormat (format : Format) : Type 0 where
  pub some : 1 ≤ format.channels
  pub few : format.channels ≤ MOST_CHANNELS
  pub bits : is_sample_width format.bits ≡ true

-- the ranges of a head's fields
pub record IsHead (head : Head) : Type 0 where
  pub some : 1 ≤ head.channels
  pub few : head.channels ≤ MOST_CHANNELS
  pub bits : is_sample_width head.bits ≡ true
  pub size : head.data_bytes < unknown_size

-- the reading of the chunks from here on
abbrev pub walk_from : Walk → List ℕ → Result Head WaveRefusal
walk_from w bytes = walk w.room w.seen (rest_of w.place bytes)

-- the reading of the chunks from the place after the name of a chunk of this kind on
abbrev pub chunk_from : Walk → Kind → List ℕ → Result Head WaveRefusal
chunk_from w k bytes = chunk_at w.room k w.seen w.place (rest_of (w.place + 4) bytes)

-- the reading after a chunk: its head, or that of the chunks from there on
abbrev pub continued : NextChunk → List ℕ → Result Head WaveRefusal
continued (next_chunk.Data head) bytes = Ok head
continued (next_chunk.Chunk next) bytes = walk_from next bytes

-- where a step ends
abbrev pub next_place : NextChunk → ℕ
next_place (next_chunk.Data head) = head.place
next_place (next_chunk.Chunk next) = next.place

-- what a step makes of the walk
abbrev pub IsNextChunk : Walk → NextChunk → Type 0
IsNextChunk w (next_chunk.Data head) = IsHead head
IsNextChunk w (next_chunk.Chunk next) = (next.room + 1 ≡ w.room) × IfSome next.seen IsFormat

-- a step over a chunk whose name is read: how many bytes it takes, and what it leads to
pub record Follows (w : Walk) (k : Kind) (s : NextChunk) (old new : DeskState) : Type 0 where
  pub n : ℕ
  pub few : n ≤ 2 ^ 32 + 4
  pub place : next_place s ≡ w.place + 4 + n
  pub is : IsNextChunk w s
  pub passes : Passes n (chunk_from w k (old.left Input) ≡ continued s (new.left Input)) old new

-- a step over a whole chunk
pub record Continues (w : Walk) (s : NextChunk) (old new : DeskState) : Type 0 where
  pub n : ℕ
  pub few : n ≤ 2 ^ 32 + 8
  pub place : next_place s ≡ w.place + n
  pub is : IsNextChunk w s
  pub passes : Passes n (walk_from w (old.left Input) ≡ continued s (new.left Input)) old new
