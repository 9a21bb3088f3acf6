-- What calls say beside `headline/Files`: a diagram that is played from an input to an output, block by block (RIFF WAVE 1991; Sun audio;
-- this project's profile).
use Rattle.std.specs.Prelude.{◌≡◌, ◌⊎◌, ℕ, ◌+◌, ◌*◌, ◌<◌, ◌≤◌, IsTrue, IsSome, List, [], ◌++◌, length, take, drop, flat_map, Option, Some, None}
use Rattle.fv_base.specs.declared.role.Role.TheVariants.{Input, Output}
use Rattle.fv_base.specs.headline.Lists.{IsPrefixOf}
use Rattle.fv_diagram.specs.Frames.{Frame, Stream, table}
use Rattle.fv_outside.specs.headline.Desk.{DeskState, KeepsFaults}
use Rattle.fv_outside.specs.Desk.{KeepsFaultsBut}
use Rattle.fv_pcm.specs.headline.Coded.{frame_bytes}
use Rattle.fv_pcm.specs.headline.Sizes.{Layout, frame_size}
use Rattle.fv_pcm.specs.Sizes.{frames_in}
use Rattle.fv_file_tape.specs.Stopping.{IsFaultOfInput}
use Rattle.fv_diagram.specs.headline.Diagram.{Diagram}
use Rattle.fv_diagram.specs.headline.Streams.{run}
use Rattle.fv_diagram.specs.headline.Samples.{no_slots}
use Rattle.fv_control.specs.declared.script.Change.{Change}
use Rattle.fv_engine_render.specs.declared.blocks.RunSizes.{RunSizes}
use Rattle.fv_file_tape.specs.headline.Tapes.{HasBegun, KeepsOutput}
use Rattle.fv_file_tape.specs.Tapes.{Files, Streams, CannotSay, head_of}
use Rattle.fv_file_tape.specs.declared.incoming.Incoming.{Incoming}
use Rattle.fv_file_tape.specs.declared.file_tape.OutputHead.{OutputHead}
use Rattle.fv_file_tape.specs.declared.file_tape.Stop.{Stop}
use Rattle.fv_file_tape.specs.declared.file_tape.Stop.TheVariants as stop
use Rattle.fv_engine_render.specs.headline.Files.{IsCutAt}

-- the layout of samples that nothing stands before
abbrev pub bare : Incoming → Layout
bare i = record { channels = i.channels; bits = i.bits; size = i.data_bytes; place = 0 }

-- The whole frames that are there of an input: in the bytes that are left of it, or in those that were read before. Without an
-- input there are as many frames of no samples as are stated.
abbrev pub frames_at : Option Incoming → (held : Option (List ℕ)) → (stated : ℕ) → (left : List ℕ) → List Frame
frames_at None held stated left = table stated (λ t. [])
frames_at (Some i) None stated left = frames_in i.coding (bare i) left
frames_at (Some i) (Some bytes) stated left = frames_in i.coding (bare i) bytes

-- the frames of the input of a tape's files, where these bytes are left of it
abbrev pub frames_of : Files → (left : List ℕ) → List Frame
frames_of t left = frames_at t.input t.held t.stated left

-- this many frames were taken of the bytes that were left of an input
abbrev pub AreTakenOf : Option Incoming → (held : Option (List ℕ)) → (frames : ℕ) → (before after : List ℕ) → Type 0
AreTakenOf None held n before after = after ≡ before
AreTakenOf (Some i) None n before after = after ≡ drop (n * frame_size i.channels i.bits) before
AreTakenOf (Some i) (Some bytes) n before after = after ≡ before

-- this many frames were taken of the input of a tape
abbrev pub HasTaken : Files → (frames : ℕ) → (old new : DeskState) → Type 0
HasTaken t n old new = AreTakenOf t.input t.held n (old.left Input) (new.left Input)

-- the bytes of an output that has what a diagram answers on these frames
abbrev pub output_of : OutputHead → Diagram → (c : ℕ → Stream) → (X : List Frame) → List ℕ
output_of head d c X = head_of head ++ flat_map (frame_bytes head.coding head.bits) (run d c no_slots X)

-- the whole output
abbrev pub answered : Diagram → (c : ℕ → Stream) → Files → (old : DeskState) → List ℕ
answered d c t old = output_of t.head d c (frames_of t (old.left Input))

-- All frames were played, and the output has the diagram's answer on them.
pub record HasPlayed (d : Diagram) (c : ℕ → Stream) (t : Files) (old new : DeskState) : Type 0 where
  pub streams : Streams t.output old new
  pub begun : HasBegun old new
  pub faults : KeepsFaults old new
  pub there : IsTrue old.tells → length (frames_of t (old.left Input)) ≡ t.stated
  pub taken : IsTrue old.tells → HasTaken t t.stated old new
  pub written : IsTrue old.tells → new.written Output ≡ answered d c t old

-- The input ends within the frames that are stated: the output has what the blocks up to frame g make, which are those that lie
-- wholly within the frames that are there.
pub record IsCut (d : Diagram) (c : ℕ → Stream) (changes : List Change) (s : RunSizes) (t : Files) (i : Incoming) (g place : ℕ) (old new : DeskState)
    : Type 0 where
  pub cut : IsCutAt s.block s.frames changes (length (frames_of t (old.left Input))) g
  pub short : length (frames_of t (old.left Input)) < s.frames
  pub place_is : place ≡ i.place + length (old.left Input)
  pub taken : new.left Input ≡ []
  pub written : new.written Output ≡ output_of t.head d c (take g (frames_of t (old.left Input)))

-- the bytes of an output that has what a diagram answers on the frames up to frame g
abbrev pub answered_to : Diagram → (c : ℕ → Stream) → Files → (g : ℕ) → (old : DeskState) → List ℕ
answered_to d c t g old = output_of t.head d c (take g (frames_of t (old.left Input)))

-- Why a run stops after the blocks up to frame g. Where the input failed, the output has what these blocks make; where the output
-- failed, and was begun, it has a part of that from its front.
abbrev pub IsStopFor : Diagram → (c : ℕ → Stream) → List Change → RunSizes → Files → (g : ℕ) → (old new : DeskState) → Stop → Type 0
-- a fault of the input, which is left to read
IsStopFor d c changes s t g old new stop.Read =
    HasBegun old new × IsFaultOfInput old new × KeepsFaultsBut Input old new × IsSome t.input × (t.held ≡ None)
    × (IsTrue old.tells → (g < t.stated) × (new.written Output ≡ answered_to d c t g old))
-- its end
IsStopFor d c changes s t g old new (stop.End place) =
    HasBegun old new × KeepsFaults old new × (i : Incoming) × (t.input ≡ Some i) × (t.held ≡ None)
    × (IsTrue old.tells → IsCut d c changes s t i g place old new)
-- a fault of the output, where it was not sure that no call fails and there is room for all that is answered
IsStopFor d c changes s t g old new stop.Write =
    CannotSay (answered d c t old) old new × (IsTrue old.tells → HasTaken t g old new)
    × (KeepsOutput old new ⊎ (IsTrue old.tells → IsPrefixOf (new.written Output) (answered_to d c t g old)))

-- A run stopped after the blocks up to frame g: the output is as it was, and no block ran, or it was begun, and has a part of the
-- answer from its front.
pub record StopsAt (d : Diagram) (c : ℕ → Stream) (changes : List Change) (s : RunSizes) (t : Files) (g : ℕ) (old new : DeskState) (e : Stop)
    : Type 0 where
  pub streams : Streams t.output old new
  pub few : g ≤ t.stated
  pub output : (KeepsOutput old new × (g ≡ 0)) ⊎ (HasBegun old new × (IsTrue old.tells → IsPrefixOf (new.written Output) (answered d c t old)))
  pub cause : IsStopFor d c changes s t g old new e
