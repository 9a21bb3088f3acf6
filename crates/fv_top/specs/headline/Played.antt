-- The blocks of what is asked for (this project's profile).
use Rattle.std.specs.Prelude.{◌≡◌, ◌⊎◌, ℕ, IsTrue, List, [], length, Option}
use Rattle.fv_base.specs.declared.role.Role.TheVariants.{Input, Output, Report}
use Rattle.fv_base.specs.headline.Lists.{IsPrefixOf}
use Rattle.fv_outside.specs.headline.Journal.{Told}
use Rattle.fv_outside.specs.headline.Desk.{DeskState}
use Rattle.fv_control.specs.declared.script.Change.{Change}
use Rattle.fv_engine_render.specs.declared.blocks.RunSizes.{RunSizes}
use Rattle.fv_engine_render.specs.declared.blocks.Ran.{Ran}
use Rattle.fv_engine_render.specs.headline.Render.{RanTo}
use Rattle.fv_top_words.specs.headline.Runs.{Settings}
use Rattle.fv_top_words.specs.headline.Commands.{Job, Playing, Checking, Making}
use Rattle.fv_top_report.specs.declared.refusal.Refusal.{Refusal}
use Rattle.fv_top_report.specs.declared.refusal.Refusal.TheVariants.{ReadFault, WriteFault}
use Rattle.fv_top_report.specs.declared.status.Tally.{Tally}
use Rattle.fv_top_program.specs.headline.Compiled.{Compiled}
use Rattle.fv_engine_render.specs.headline.Files.{IsCutAt}
use Rattle.fv_top_files.specs.headline.Output.{present_in}
use Rattle.fv_top_files.specs.headline.Inputs.{truncated}
use Rattle.fv_file_tape.specs.headline.Tapes.{HasBegun}
use Rattle.fv_top.specs.headline.Meant.{written_by}
use Rattle.fv_top.specs.headline.Promise.{Asks, Plays, IsMade, meant_to}
use Rattle.fv_pcm.specs.declared.coding.Coding.{Coding}

-- what is played: a program under these changes of its controls, in blocks and vectors of these sizes
pub record Played : Type 0 where
  pub program : Compiled
  pub changes : List Change
  pub sizes : RunSizes

-- the sizes of a run with these settings
abbrev pub sizes_of : Settings → (frames : ℕ) → RunSizes
sizes_of s frames = record { frames = frames; block = s.block; vector = s.vector; workers = s.workers }

-- the sizes of a make of this many frames by this many workers
abbrev pub make_sizes : (workers frames : ℕ) → RunSizes
make_sizes workers frames = record { frames = frames; block = 256; vector = 32; workers = workers }

-- This is what is played. Of a run it is the files' program under their script, as many frames as are stated, where the desk tells
-- its files. Of a make it is the program of its voices.
abbrev pub IsPlayed : Job → DeskState → Played → Type 0
IsPlayed (Playing run) old x =
    (x.sizes ≡ sizes_of run.settings x.sizes.frames)
    × (IsTrue old.tells → (p : Plays run old.files) × (p.of.compiled ≡ x.program) × (p.changes ≡ x.changes)
    × (p.format.frames ≡ x.sizes.frames))
IsPlayed (Checking name) old x = ⊥
IsPlayed (Making voices frames workers) old x = (x.sizes ≡ make_sizes workers frames) × (x.changes ≡ []) × IsMade voices x.program

-- The blocks of what is played ran up to a frame: in each of them each loop of a plan of the program ran once on each vector, after
-- all that it reads.
pub record HaveRan (job : Job) (old : DeskState) (upto : ℕ) (r : Ran) (before after : Option Told) : Type 0 where
  pub played : Played
  pub is : IsPlayed job old played
  pub ran : RanTo played.program.diagram played.program.controls played.changes played.sizes upto r before after

-- the blocks that a tally counts
abbrev pub ran_in : Tally → Ran
ran_in t = record { blocks = t.blocks; loops = t.loops; loop_runs = t.loop_runs }

-- The blocks of what is done, as the tally counts them: those of all its frames. A check has no frames and no blocks.
abbrev pub BlocksOf : Job → Tally → DeskState → (before after : Option Told) → Type 0
BlocksOf (Checking name) t old before after = (t.frames ≡ 0) × (t.blocks ≡ 0) × (t.loops ≡ 0) × (t.loop_runs ≡ 0) × (after ≡ before)
BlocksOf job t old before after = (x : HaveRan job old t.frames (ran_in t) before after) × (x.played.sizes.frames ≡ t.frames)

-- the words ask for a job, and the tally and what was told are those of its blocks
pub record HasBlocks (words : List (List ℕ)) (t : Tally) (old : DeskState) (before after : Option Told) : Type 0 where
  pub job : Job
  pub asks : Asks words job
  pub blocks : BlocksOf job t old before after

-- Up to which frame the blocks of a refused run ran. Where the report failed, all of them ran. Where the input ends too early,
-- those ran that lie wholly within the frames that are present. Where the input failed, those ran whose samples the output has.
-- Where the output failed after it was begun, it has a part of what these blocks make, from its front.
abbrev pub StopsAt : Job → Refusal → (old new : DeskState) → Played → (upto : ℕ) → Type 0
StopsAt (Playing run) refusal old new x upto =
    (refusal ≡ WriteFault Report → upto ≡ x.sizes.frames)
    × ((c : Coding) (place : ℕ) → refusal ≡ truncated c place → IsTrue old.tells → (p : Plays run old.files)
    × IsCutAt run.settings.block x.sizes.frames x.changes (length (present_in p.format p.source)) upto)
    × (refusal ≡ ReadFault Input → HasBegun old new → IsTrue old.tells → (p : Plays run old.files)
    × (new.written Output ≡ written_by (meant_to p upto) old Output))
    × (refusal ≡ WriteFault Output → HasBegun old new → IsTrue old.tells → (p : Plays run old.files)
    × IsPrefixOf (new.written Output) (written_by (meant_to p upto) old Output))
StopsAt (Checking name) refusal old new x upto = ⊥
StopsAt (Making voices frames workers) refusal old new x upto = upto ≡ x.sizes.frames

-- A refusal that comes before any block: of a run before its output is begun, of a make before its report.
abbrev pub ComesFirst : Job → Refusal → (old new : DeskState) → Type 0
ComesFirst (Playing run) refusal old new = new.begins Output ≡ old.begins Output
ComesFirst (Checking name) refusal old new = Unit {0}
ComesFirst (Making voices frames workers) refusal old new = refusal ≡ WriteFault Report → ⊥

-- a refusal that comes before any block of what the words ask for
abbrev pub MayBeUntold : (words : List (List ℕ)) → Refusal → (old new : DeskState) → Type 0
MayBeUntold words refusal old new = (job : Job) → Asks words job → ComesFirst job refusal old new

-- The blocks of what was refused, up to a frame: none, where its refusal comes first.
pub record RanSoFar (words : List (List ℕ)) (refusal : Refusal) (old new : DeskState) (before after : Option Told) : Type 0 where
  pub job : Job
  pub asks : Asks words job
  pub upto : ℕ
  pub counted : Ran
  pub ran : HaveRan job old upto counted before after
  pub stops : StopsAt job refusal old new ran.played upto
  pub first : ComesFirst job refusal old new → upto ≡ 0

-- What is told by a run that is refused: nothing, where its refusal comes first, or its blocks as far as they ran.
abbrev pub HasBlocksSoFar : (words : List (List ℕ)) → Refusal → (old new : DeskState) → (before after : Option Told) → Type 0
HasBlocksSoFar words refusal old new before after = ((after ≡ before) × MayBeUntold words refusal old new) ⊎ RanSoFar words refusal old new before after
