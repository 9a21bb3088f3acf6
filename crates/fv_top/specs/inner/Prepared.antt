-- What the code has ready to be played, and how that is played.
use Rattle.std.specs.Prelude.{◌≡◌, ◌⊎◌, ◌<◌, ◌≤◌, ◌+◌, ℕ, IsTrue, IsSome, List, [], length, take, Option, Some, None, option_map, is_some}
use Rattle.std.specs.List.{AllByRecursion}
use Rattle.fv_base.specs.declared.role.Role.TheVariants.{Input, Output}
use Rattle.fv_base.specs.headline.Lists.{IsPrefixOf}
use Rattle.fv_diagram.specs.Frames.{Frame}
use Rattle.fv_outside.specs.headline.Journal.{Told}
use Rattle.fv_outside.specs.headline.Desk.{DeskState, KeepsFaults}
use Rattle.fv_outside.specs.Desk.{KeepsFaultsBut}
use Rattle.fv_control.specs.declared.script.Change.{Change}
use Rattle.fv_control.specs.Laws.{NeverFall, IsOfControls}
use Rattle.fv_control.specs.headline.Streams.{control_streams}
use Rattle.fv_diagram.specs.headline.Diagram.{inputs, outputs}
use Rattle.fv_pcm.specs.headline.Sizes.{data_size}
use Rattle.fv_pcm.specs.declared.coding.Coding.{Coding}
use Rattle.fv_pcm.specs.declared.coding.Coding.TheVariants as coding
use Rattle.fv_engine_render.specs.headline.Render.{RanTo, initial_of}
use Rattle.fv_engine_render.specs.Render.{CanHave}
use Rattle.fv_engine_render.specs.Stops.{IsSetFor}
use Rattle.fv_engine_render.specs.declared.blocks.Ran.{Ran}
use Rattle.fv_file_tape.specs.headline.Tapes.{HasBegun, KeepsOutput}
use Rattle.fv_file_tape.specs.Tapes.{IsTape, Streams, CannotSay, channels_of, files_of}
use Rattle.fv_file_tape.specs.Stopping.{IsFaultOfInput}
use Rattle.fv_file_tape.specs.declared.incoming.Incoming.{Incoming}
use Rattle.fv_file_tape.specs.declared.file_tape.FileTape.{FileTape}
use Rattle.fv_file_tape.specs.declared.file_tape.OutputHead.{OutputHead}
use Rattle.fv_file_tape.specs.declared.file_tape.Stop.{Stop}
use Rattle.fv_file_tape.specs.declared.file_tape.Stop.TheVariants as stop
use Rattle.fv_engine_render.specs.headline.Files.{IsCutAt}
use Rattle.fv_engine_render.specs.Files.{HasTaken, frames_of}
use Rattle.fv_top_words.specs.headline.Runs.{Run, Settings}
use Rattle.fv_top_report.specs.declared.refusal.Refusal.{Refusal}
use Rattle.fv_top_report.specs.declared.refusal.Refusal.TheVariants.{ReadFault, WriteFault}
use Rattle.fv_top_program.specs.headline.Compiled.{Compiled}
use Rattle.fv_top_program.specs.Compiled.{CanPlay}
use Rattle.fv_top_files.specs.declared.format.OutputFormat.{OutputFormat as Made}
use Rattle.fv_top_files.specs.declared.input.Loaded.{Loaded}
use Rattle.fv_top.specs.declared.prepare.Prepared.{Prepared}
use Rattle.fv_top_files.specs.headline.Inputs.{truncated}
use Rattle.fv_top_files.specs.Loading.{IsLeft}
use Rattle.fv_top_files.specs.headline.Output.{output_file}
use Rattle.fv_top.specs.headline.Played.{sizes_of}
use Rattle.fv_top.specs.headline.Promise.{Plays}
use Rattle.fv_top_files.specs.Formats.{format_in}
use Rattle.fv_top_files.specs.Loaded.{held_in}

-- ---- the tape

-- the head of an output of these channels in this format
abbrev pub output_head : (channels : ℕ) → Made → OutputHead
output_head channels f = record { coding = f.coding; channels = channels; rate = f.rate; bits = f.bits; size = f.size }

-- The tape of an output of this name, with these channels and this format, and of an input that was loaded. Nothing was heard of it
-- yet, and it has room for a block.
pub record IsTapeOf (name : List ℕ) (channels : ℕ) (format : Made) (loaded : Loaded) (block : ℕ) (t : FileTape) : Type 0 where
  pub output : t.output.now ≡ name
  pub head : t.head ≡ output_head channels format
  pub input : t.input ≡ loaded.head
  pub held : (files_of t).held ≡ held_in loaded
  pub done : t.done ≡ 0
  pub stated : t.stated ≡ format.frames
  pub most : t.most ≡ block

-- ---- what is ready

-- All that a program is played with fits together: its controls, the memory, the tape, and the sizes of the run.
pub record CanRun (c : Compiled) (p : Prepared) : Type 0 where
  pub plays : CanPlay c
  pub inputs_are : p.inputs ≡ inputs c.diagram
  pub outputs_are : p.outputs ≡ outputs c.diagram
  pub controls_are : p.controls.items ≡ c.controls
  pub order : NeverFall 0 p.script
  pub lawful : AllByRecursion (IsOfControls c.controls) p.script
  pub can : CanHave p.sizes
  pub set : IsSetFor c.diagram c.controls p.sizes p.ready
  pub tape : IsTape p.tape
  pub fresh : p.tape.done ≡ 0
  pub ears : channels_of p.tape.input ≡ inputs c.diagram
  pub most : p.sizes.block ≤ p.tape.most
  pub stated : p.tape.stated ≡ p.sizes.frames
  pub frames : p.format.frames ≡ p.sizes.frames
  pub size : p.format.size ≡ data_size (outputs c.diagram) p.format.bits p.format.frames
  pub head : p.tape.head ≡ output_head (outputs c.diagram) p.format

-- It was made of these: the output's name, the settings, a script, an input and a format.
pub record IsMadeOf (name : List ℕ) (settings : Settings) (changes : List Change) (loaded : Loaded) (made : Made) (p : Prepared) : Type 0 where
  pub script : p.script ≡ changes
  pub format : p.format ≡ made
  pub sizes : p.sizes ≡ sizes_of settings p.sizes.frames
  pub output : p.tape.output.now ≡ name
  pub input : p.tape.input ≡ loaded.head
  pub held : (files_of p.tape).held ≡ held_in loaded

-- It is for this run.
pub record IsForRun (run : Run) (p : Prepared) : Type 0 where
  pub sizes : p.sizes ≡ sizes_of run.settings p.sizes.frames
  pub output : p.tape.output.now ≡ run.output
  pub named : is_some p.tape.input ≡ is_some run.input

-- What is ready is what the files of the run say, where the desk tells them. The samples of its input are left to read, or were
-- read.
pub record IsOfFiles (run : Run) (old new : DeskState) (c : Compiled) (p : Prepared) : Type 0 where
  pub plays : Plays run old.files
  pub program : plays.of.compiled ≡ c
  pub changes : plays.changes ≡ p.script
  pub format : plays.format ≡ format_in p.format
  pub input : p.tape.input ≡ plays.source.head
  pub behind : IsLeft plays.source.head (files_of p.tape).held plays.source.bytes (new.left Input)

-- ---- how it is played

-- the whole frames that are there of its input, where these bytes are left of it
abbrev pub frames_there : Prepared → (left : List ℕ) → List Frame
frames_there p left = frames_of (files_of p.tape) left

-- the output file of frames that are there
abbrev pub file_on : Compiled → Prepared → (X : List Frame) → List ℕ
file_on c p X = output_file c.diagram (control_streams p.script (initial_of c.controls)) (format_in p.format) X

-- the output file of all frames that are there
abbrev pub file_there : Compiled → Prepared → (left : List ℕ) → List ℕ
file_there c p left = file_on c p (frames_there p left)

-- the output file of the frames that are there up to frame g
abbrev pub file_to : Compiled → Prepared → (g : ℕ) → (left : List ℕ) → List ℕ
file_to c p g left = file_on c p (take g (frames_there p left))

-- All frames were there, and were played, and the whole file was written.
pub record HasRun (c : Compiled) (p : Prepared) (old new : DeskState) : Type 0 where
  pub streams : Streams p.tape.output.now old new
  pub begun : HasBegun old new
  pub faults : KeepsFaults old new
  pub there : IsTrue old.tells → length (frames_there p (old.left Input)) ≡ p.sizes.frames
  pub taken : IsTrue old.tells → HasTaken (files_of p.tape) p.sizes.frames old new
  pub written : IsTrue old.tells → new.written Output ≡ file_there c p (old.left Input)

-- The input ends within the frames that are stated: the blocks up to frame g were played, which are those that lie wholly within the
-- frames that are there.
pub record IsCutIn (c : Compiled) (p : Prepared) (i : Incoming) (g place : ℕ) (old new : DeskState) : Type 0 where
  pub cut : IsCutAt p.sizes.block p.sizes.frames p.script (length (frames_there p (old.left Input))) g
  pub short : length (frames_there p (old.left Input)) < p.sizes.frames
  pub place_is : place ≡ i.place + length (old.left Input)
  pub taken : new.left Input ≡ []
  pub written : new.written Output ≡ file_to c p g (old.left Input)

-- Why it stops after the blocks up to frame g. Where the input failed, the output has what these blocks make; where the output failed, and
-- was begun, it has a part of that from its front.
abbrev pub IsEndFor : Compiled → Prepared → (g : ℕ) → (old new : DeskState) → Stop → Type 0
IsEndFor c p g old new stop.Read =
    HasBegun old new × IsFaultOfInput old new × KeepsFaultsBut Input old new × IsSome p.tape.input × ((files_of p.tape).held ≡ None)
    × (IsTrue old.tells → new.written Output ≡ file_to c p g (old.left Input))
IsEndFor c p g old new (stop.End place) =
    HasBegun old new × KeepsFaults old new × (i : Incoming) × (p.tape.input ≡ Some i) × ((files_of p.tape).held ≡ None)
    × (IsTrue old.tells → IsCutIn c p i g place old new)
IsEndFor c p g old new stop.Write =
    CannotSay (file_there c p (old.left Input)) old new
    × (IsTrue old.tells → (n : ℕ) × (n ≤ p.sizes.frames) × HasTaken (files_of p.tape) n old new)
    × (KeepsOutput old new ⊎ (IsTrue old.tells → IsPrefixOf (new.written Output) (file_to c p g (old.left Input))))

-- It stopped after the blocks up to frame g: the output is as it was, and no block ran, or it was begun, and has a part of its file
-- from its front.
pub record EndsAt (c : Compiled) (p : Prepared) (g : ℕ) (old new : DeskState) (e : Stop) : Type 0 where
  pub streams : Streams p.tape.output.now old new
  pub output : (KeepsOutput old new × (g ≡ 0)) ⊎ (HasBegun old new × (IsTrue old.tells → IsPrefixOf (new.written Output) (file_there c p (old.left Input))))
  pub cause : IsEndFor c p g old new e

-- how the samples of an input are stored
abbrev pub coding_heard : Option Incoming → Coding
coding_heard None = coding.Wave
coding_heard (Some i) = i.coding

-- the refusal of a run that stops, by how its input's samples are stored
abbrev pub refusal_of_stop : Coding → Stop → Refusal
refusal_of_stop c stop.Read = ReadFault Input
refusal_of_stop c (stop.End place) = truncated c place
refusal_of_stop c stop.Write = WriteFault Output

-- It stopped, and this is the refusal.
pub record StopsRun (c : Compiled) (p : Prepared) (old new : DeskState) (before after : Option Told) (refusal : Refusal) : Type 0 where
  pub stop : Stop
  pub is : refusal ≡ refusal_of_stop (coding_heard p.tape.input) stop
  pub frame : ℕ
  pub counted : Ran
  pub ran : RanTo c.diagram c.controls p.script p.sizes frame counted before after
  pub ends : EndsAt c p frame old new stop
