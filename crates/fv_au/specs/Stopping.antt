-- How readers of an AU file go on and stop.
use Rattle.std.specs.Prelude.{◌≡◌, ◌<◌, ◌≤◌, true, length}
use Rattle.fv_base.specs.declared.limits.TheConstants.{MOST_CHANNELS}
use Rattle.fv_base.specs.declared.role.Role.TheVariants.{Input}
use Rattle.fv_pcm.specs.Words.{is_sample_width}
use Rattle.fv_outside.specs.headline.Desk.{DeskState, KeepsFaults}
use Rattle.fv_outside.specs.Desk.{TakesSome}
use Rattle.fv_outside.specs.declared.transfer.ReadError.{ReadError}
use Rattle.fv_outside.specs.declared.transfer.ReadError.TheVariants.{Failed, NoMemory as OutOfMemory}
use Rattle.fv_pcm.specs.headline.Sizes.{data_limit}
use Rattle.fv_wav.specs.Stopping.{IsFaultOfInput, IsSaid}
use Rattle.fv_au.specs.declared.head.AuHead.{AuHead}
use Rattle.fv_au.specs.declared.refusal.AuRefusal.{AuRefusal}
use Rattle.fv_au.specs.declared.refusal.AuRefusal.TheVariants.{ReadFault, AuFormat, AuTruncated, NoMemory}

-- the ranges of a head's fields
pub record IsAuHead (head : AuHead) : Type 0 where
  pub some : 1 ≤ head.channels
  pub few : head.channels ≤ MOST_CHANNELS
  pub bits : is_sample_width head.bits ≡ true
  pub low : 24 ≤ head.offset

-- The cause of a refusal: a fault that the desk counted, or what the bytes say. A reader that takes no memory has no want of it.
abbrev pub IsAuCause : AuRefusal → (says : Type 0) → (old new : DeskState) → Type 0
IsAuCause (ReadFault role) says old new = (role ≡ Input) × IsFaultOfInput old new
IsAuCause (AuFormat place) says old new = IsSaid says old new
IsAuCause (AuTruncated place) says old new = IsSaid says old new
IsAuCause NoMemory says old new = ⊥

-- a refusal that the bytes alone make
abbrev pub IsOfBytes : AuRefusal → Type 0
IsOfBytes (ReadFault role) = ⊥
IsOfBytes (AuFormat place) = Unit {0}
IsOfBytes (AuTruncated place) = Unit {0}
IsOfBytes NoMemory = ⊥

-- A reader stopped: some bytes of the input were taken, nothing else changed, and the refusal has its cause.
pub record AuStops (says : Type 0) (old new : DeskState) (refusal : AuRefusal) : Type 0 where
  pub some : TakesSome Input old new
  pub cause : IsAuCause refusal says old new

-- the refusal of what could not be read
abbrev pub refusal_of_read : ReadError → AuRefusal
refusal_of_read Failed = ReadFault Input
refusal_of_read OutOfMemory = NoMemory

-- The cause of a refusal of samples up to the file's end: a fault that the desk counted, more bytes than a head can state, or
-- want of memory, which is free.
abbrev pub IsRestCause : AuRefusal → (old new : DeskState) → Type 0
IsRestCause (ReadFault role) old new = (role ≡ Input) × IsFaultOfInput old new
IsRestCause (AuFormat place) old new = (place ≡ 8) × IsSaid (data_limit < length (old.left Input)) old new
IsRestCause (AuTruncated place) old new = ⊥
IsRestCause NoMemory old new = KeepsFaults old new

-- A reading up to the file's end stopped: some bytes of the input were taken, nothing else changed, and the refusal has its cause.
pub record RestStops (old new : DeskState) (refusal : AuRefusal) : Type 0 where
  pub some : TakesSome Input old new
  pub cause : IsRestCause refusal old new
