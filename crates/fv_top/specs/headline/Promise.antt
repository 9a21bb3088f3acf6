-- What a run promises.
use Rattle.std.specs.Prelude.{◌≡◌, ◌≢◌, ◌⊎◌, ℕ, ◌≤◌, ◌&&◌, ◌||◌, ◌==◌, nat_le, Bool, false, IsTrue, IsSome, List, [], ◌∷◌, ◌++◌, length, take, Some}
use Rattle.std.specs.Prelude.{None, Result, Ok, Err}
use Rattle.fv_base.specs.declared.role.Role.{Role}
use Rattle.fv_base.specs.declared.role.Role.TheVariants.{Program, Input, Controls, Output, Report}
use Rattle.fv_base.specs.headline.Lists.{IsPrefixOf}
use Rattle.fv_outside.specs.headline.Requests.{Request, to_read, to_write}
use Rattle.fv_outside.specs.headline.Desk.{DeskState, File, file_named, HasFault, KeepsFaults, IsUnfailing}
use Rattle.fv_control.specs.declared.script.Change.{Change}
use Rattle.fv_control.specs.headline.Streams.{control_streams}
use Rattle.fv_top_make.specs.headline.Made.{text_of}
use Rattle.fv_top_words.specs.declared.cause.Cause.{Cause}
use Rattle.fv_top_words.specs.declared.manner.ProgramKind.{ProgramKind}
use Rattle.fv_top_words.specs.declared.manner.ProgramKind.TheVariants.{Alone}
use Rattle.fv_top_words.specs.headline.Runs.{Run}
use Rattle.fv_top_words.specs.headline.Commands.{Job, Playing, Checking, Making, job_in}
use Rattle.fv_top_report.specs.declared.status.Tally.{Tally}
use Rattle.fv_top_report.specs.declared.refusal.Refusal.{Refusal}
use Rattle.fv_top_report.specs.declared.refusal.Refusal.TheVariants.{Usage, ReadFault, WriteFault, NoMemory}
use Rattle.fv_top_report.specs.declared.status.Status.{Status}
use Rattle.fv_top_report.specs.declared.status.Status.TheVariants.{Done, Refused}
use Rattle.fv_top_program.specs.headline.Program.{TextIs}
use Rattle.fv_top_program.specs.headline.Kinds.{FileIs, is_of_kind}
use Rattle.fv_file_tape.specs.headline.Tapes.{HasBegun, KeepsOutput}
use Rattle.fv_engine_render.specs.headline.Files.{IsCutAt}
use Rattle.fv_engine_render.specs.headline.Render.{initial_of}
use Rattle.fv_top_program.specs.headline.Compiled.{Compiled}
use Rattle.fv_top_files.specs.headline.Sources.{Source}
use Rattle.fv_top_files.specs.headline.Output.{OutputFormat, coding_of, format_of, present_in, cut_in}
use Rattle.fv_top_files.specs.headline.Inputs.{truncated}
use Rattle.fv_pcm.specs.declared.coding.Coding.{Coding}
use Rattle.fv_top_files.specs.headline.Loading.{is_of_head, HasScript, HasInput, LeavesRest, ReadsWithin, IsThere, reading}
use Rattle.fv_top.specs.headline.Meant.{Meant, run_meant, check_meant, make_meant, written_by}
use Rattle.fv_top_report.specs.headline.Lines.{row_of, refused_line}
use Rattle.fv_top.specs.headline.Stages.{Turn, reads, writes, Rules, Ends, Stops, PassesAll, all_requests}

-- the words are of the form, and ask for this
abbrev pub Asks : List (List ℕ) → Job → Type 0
Asks words job = job_in words ≡ Ok job

-- The file of this name is a program, by what Is says of its bytes.
pub record HasProgram (Is : List ℕ → Result Compiled Refusal → Type 0) (name : List ℕ) (files : List File) : Type 0 where
  pub text : List ℕ
  pub file : file_named name files ≡ Some text
  pub compiled : Compiled
  pub program : Is text (Ok compiled)

-- The file of this name is there, and is refused.
pub record HasNoProgram (Is : List ℕ → Result Compiled Refusal → Type 0) (name : List ℕ) (files : List File) (refusal : Refusal) : Type 0 where
  pub text : List ℕ
  pub file : file_named name files ≡ Some text
  pub refused : Is text (Err refusal)

-- the program of a run: that of a text, or of a file of jobs
abbrev pub HasProgramOf : Run → List File → Type 0
HasProgramOf run files = HasProgram (FileIs run.manner.program) run.program files

-- The files of a run: a program, a script of its controls, an input, and the format of its output.
pub record Plays (run : Run) (files : List File) : Type 0 where
  pub of : HasProgramOf run files
  pub changes : List Change
  pub under : HasScript run.controls files of.compiled.controls (Ok changes)
  pub source : Source
  pub on : HasInput run.manner.input run.input files (Ok source)
  pub format : OutputFormat
  pub fits : format_of (coding_of run.manner.output) run.settings of.compiled.diagram source.head ≡ Ok format

-- what the files of a run mean that are played
abbrev pub meant : {run : Run} {files : List File} → Plays run files → Meant
meant p = run_meant p.of.compiled.diagram (control_streams p.changes (initial_of p.of.compiled.controls)) p.format (present_in p.format p.source)

-- what the files of a run mean that are played, up to frame g: the frames before it, of those that are present
abbrev pub meant_to : {run : Run} {files : List File} → Plays run files → (g : ℕ) → Meant
meant_to p g = run_meant p.of.compiled.diagram (control_streams p.changes (initial_of p.of.compiled.controls)) p.format (take g (present_in p.format p.source))

-- no whole frame of the input is missing
abbrev pub IsWhole : {run : Run} {files : List File} → Plays run files → Type 0
IsWhole p = cut_in p.format p.source ≡ None

-- ---- what is asked for

-- a program is that of this many voices
abbrev pub IsMade : (voices : ℕ) → Compiled → Type 0
IsMade voices p = TextIs (text_of voices) (Ok p)

-- what a job asks for can be done with these files
abbrev pub CanDo : Job → List File → Type 0
CanDo (Playing run) files = (p : Plays run files) × IsWhole p
CanDo (Checking name) files = HasProgram TextIs name files
CanDo (Making voices frames workers) files = (p : Compiled) × IsMade voices p

-- what a job means that can be done
abbrev pub meant_of : (job : Job) (files : List File) → CanDo job files → Meant
meant_of (Playing run) files can = meant can.0
meant_of (Checking name) files can = check_meant can.compiled
meant_of (Making voices frames workers) files can = make_meant can.0 voices frames

-- ---- its stages, in order

-- a stage of a run
pub data Stage : Type 0 where
  -- the program's file is read and judged
  ReadProgram : Stage
  -- the script is read and judged
  ReadScript : Stage
  -- the head of the input is read and judged
  ReadHead : Stage
  -- the format of what the program makes on the input is judged, and all memory of the run is taken
  Fit : Stage
  -- the input is read, played and written block by block
  Write : Stage
  -- what was done is reported
  Tell : Stage

-- what a stage asks the desk for
abbrev pub requests_of : Job → Stage → List Request
requests_of (Playing run) ReadProgram = to_read Program run.program ∷ []
requests_of (Playing run) ReadScript = reading Controls run.controls
requests_of (Playing run) ReadHead = reading Input run.input
requests_of (Playing run) Write = to_write Output run.output ∷ []
requests_of (Checking name) ReadProgram = to_read Program name ∷ []
requests_of job s = []

-- the roles that a stage reads or writes: a make reads no file
abbrev pub TakesTurn : Job → Stage → Turn → Type 0
TakesTurn (Playing run) ReadProgram t = t ≡ reads Program
TakesTurn (Playing run) ReadScript t = (t ≡ reads Controls) × IsSome run.controls
TakesTurn (Playing run) ReadHead t = (t ≡ reads Input) × IsSome run.input
TakesTurn (Playing run) Write t = (t ≡ writes Output) ⊎ ((t ≡ reads Input) × IsSome run.input)
TakesTurn (Checking name) ReadProgram t = t ≡ reads Program
TakesTurn job Tell t = t ≡ writes Report
TakesTurn job s t = ⊥

-- a desk has room for all that a finished job writes of a role
abbrev pub HasRoom : Job → DeskState → Role → Type 0
HasRoom (Playing run) old role = (p : Plays run old.files) → length (written_by (meant p) old role) ≤ old.room role
HasRoom job old role = (can : CanDo job old.files) → length (written_by (meant_of job old.files can) old role) ≤ old.room role

-- what a turn needs of the desk as it was at first: no call of the role that fails from then on, its file, and room
abbrev pub IsAnswered : Job → DeskState → Stage → Turn → Type 0
IsAnswered (Playing run) old ReadProgram t = IsUnfailing Program old × IsThere (Some run.program) old.files
IsAnswered (Playing run) old ReadScript t = IsUnfailing Controls old × IsThere run.controls old.files
IsAnswered (Playing run) old ReadHead t = IsUnfailing Input old × IsThere run.input old.files
IsAnswered (Playing run) old Write (reads role) = IsUnfailing Input old
IsAnswered (Playing run) old Write (writes role) = IsUnfailing Output old × HasRoom (Playing run) old Output
IsAnswered (Checking name) old ReadProgram t = IsUnfailing Program old × IsThere (Some name) old.files
IsAnswered job old Tell t = IsUnfailing Report old × HasRoom job old Report
IsAnswered job old s t = Unit {0}

-- the numbers of the refusals of a script
abbrev pub is_of_script : ℕ → Bool
is_of_script n = (n == 4) || (nat_le 30 n && nat_le n 33)

-- the numbers of the refusals of what a stage judges, where the program's file is of this kind
abbrev pub is_of_stage : ProgramKind → Stage → ℕ → Bool
is_of_stage kind ReadProgram n = is_of_kind kind n
is_of_stage kind ReadScript n = is_of_script n
is_of_stage kind ReadHead n = is_of_head n
is_of_stage kind Fit n = (n == 29) || (n == 38) || (n == 39)
is_of_stage kind Write n = (n == 35) || (n == 45)
is_of_stage kind Tell n = false

-- what the program's file of a job is: one text, but for a run that says otherwise
abbrev pub kind_of : Job → ProgramKind
kind_of (Playing run) = run.manner.program
kind_of job = Alone

-- a refusal is one of those of what a stage judges, where the program's file is of this kind
abbrev pub HasRefusal : ProgramKind → Stage → Refusal → Type 0
HasRefusal kind s refusal = IsTrue (is_of_stage kind s (row_of refusal).number)

-- The stages that take memory. Once it was begun to write, none is wanted.
abbrev pub WantsMemory : Stage → Type 0
WantsMemory Write = ⊥
WantsMemory Tell = ⊥
WantsMemory s = Unit {0}

-- what a stage judges passes
abbrev pub StagePasses : Job → List File → Stage → Type 0
StagePasses (Playing run) files ReadProgram = HasProgramOf run files
StagePasses (Playing run) files ReadScript =
    (p : HasProgramOf run files) × (changes : List Change) × HasScript run.controls files p.compiled.controls (Ok changes)
StagePasses (Playing run) files ReadHead = (source : Source) × HasInput run.manner.input run.input files (Ok source)
StagePasses (Playing run) files Fit = Plays run files
StagePasses (Playing run) files Write = (p : Plays run files) × IsWhole p
StagePasses (Checking name) files ReadProgram = HasProgram TextIs name files
StagePasses job files s = Unit {0}

-- what a stage judges is refused for this: a make refuses nothing, since the text of its voices is a program
abbrev pub StageRefuses : Job → List File → Stage → Refusal → Type 0
StageRefuses (Playing run) files ReadProgram refusal = HasNoProgram (FileIs run.manner.program) run.program files refusal
StageRefuses (Playing run) files ReadScript refusal = (p : HasProgramOf run files) × HasScript run.controls files p.compiled.controls (Err refusal)
StageRefuses (Playing run) files ReadHead refusal = HasInput run.manner.input run.input files (Err refusal)
StageRefuses (Playing run) files Fit refusal =
    (p : HasProgramOf run files) × (source : Source) × HasInput run.manner.input run.input files (Ok source)
    × (format_of (coding_of run.manner.output) run.settings p.compiled.diagram source.head ≡ Err refusal)
StageRefuses (Playing run) files Write refusal = (p : Plays run files) × (cut_in p.format p.source ≡ Some refusal)
StageRefuses (Checking name) files ReadProgram refusal = HasNoProgram TextIs name files refusal
StageRefuses job files s refusal = ⊥

-- it is known what the stages of a job judge: the desk tells its files, or the job is a make, whose stages judge none
abbrev pub IsKnown : Job → DeskState → Type 0
IsKnown (Making voices frames workers) old = Unit {0}
IsKnown job old = IsTrue old.tells

-- the stages of a job, in order
abbrev pub stages_of : Job → List Stage
stages_of (Playing run) = ReadProgram ∷ ReadScript ∷ ReadHead ∷ Fit ∷ Write ∷ Tell ∷ []
stages_of job = ReadProgram ∷ Tell ∷ []

-- what the stages of a job are, on the files that the desk had at first
abbrev pub rules_of : Job → DeskState → Rules Stage
rules_of job old = record {
  requests = requests_of job;
  Takes = TakesTurn job;
  Answers = IsAnswered job old;
  Has = HasRefusal (kind_of job);
  Wants = WantsMemory;
  Passes = StagePasses job old.files;
  Refuses = StageRefuses job old.files;
  Known = IsKnown job old;
}

-- ---- how a run ends

-- Why it is refused, and what the desk was asked for by then: the words, or the first of the stages that cannot go on. Want
-- of memory is free.
pub data HasCause (words : List (List ℕ)) (old new : DeskState) : Refusal → List Request → Type 0 where
  bad_words : {cause : Cause} → job_in words ≡ Err cause → HasCause words old new (Usage cause) []
  of_job : {refusal : Refusal} {asked : List Request} (job : Job) → Asks words job → Ends (rules_of job old) old new (stages_of job) refusal asked
      → HasCause words old new refusal asked

-- The desk was asked to begin just this, and the refusal has its cause.
pub record IsRefusedFor (words : List (List ℕ)) (old new : DeskState) (refusal : Refusal) : Type 0 where
  pub asked : List Request
  pub requests : new.requests ≡ old.requests ++ asked
  pub cause : HasCause words old new refusal asked

-- a run that is done began its output, and nothing else begins one
abbrev pub BeginsOutput : Job → (old new : DeskState) → Type 0
BeginsOutput (Playing run) old new = HasBegun old new
BeginsOutput job old new = new.begins Output ≡ old.begins Output

-- of the input of a run nothing was read after its whole frames
abbrev pub LeavesRestOf : Job → (old new : DeskState) → Type 0
LeavesRestOf (Playing run) old new = LeavesRest run.manner.input run.input old.files (new.left Input)
LeavesRestOf job old new = Unit {0}

-- the roles that are read for what is asked for: files that it names
abbrev pub IsReadBy : Job → Role → Type 0
IsReadBy (Playing run) Program = Unit {0}
IsReadBy (Playing run) Controls = IsSome run.controls
IsReadBy (Playing run) Input = IsSome run.input
IsReadBy (Checking name) Program = Unit {0}
IsReadBy job r = ⊥

-- The desk was asked for the files of what was asked for, in their order; the program and the script were read to their ends; all
-- that was meant was written, and nothing else.
pub record HasDone (words : List (List ℕ)) (frames : ℕ) (old new : DeskState) : Type 0 where
  pub job : Job
  pub asks : Asks words job
  pub requests : new.requests ≡ old.requests ++ all_requests (rules_of job old) (stages_of job)
  pub faults : KeepsFaults old new
  pub begins : BeginsOutput job old new
  pub rest : IsTrue old.tells → LeavesRestOf job old new
  pub whole : IsTrue old.tells → (r : Role) → IsReadBy job r → r ≢ Input → new.left r ≡ []
  pub told : IsKnown job old → (can : CanDo job old.files) × (frames ≡ (meant_of job old.files can).frames)
      × (IsTrue old.tells → (r : Role) → new.written r ≡ written_by (meant_of job old.files can) old r)

-- A part of the output file from its front was written, and memory was not wanted. Of the input, unless it failed, nothing was read
-- after its whole frames; and unless the output failed, they were all read.
pub record HasPlayedPart (words : List (List ℕ)) (refusal : Refusal) (old new : DeskState) : Type 0 where
  pub run : Run
  pub asks : Asks words (Playing run)
  pub begun : HasBegun old new
  pub memory : refusal ≡ NoMemory → ⊥
  pub within : (refusal ≡ ReadFault Input → ⊥) → IsTrue old.tells → ReadsWithin run.manner.input run.input old.files (new.left Input)
  pub rest : (refusal ≡ ReadFault Input → ⊥) → (refusal ≡ WriteFault Output → ⊥) → IsTrue old.tells
      → LeavesRest run.manner.input run.input old.files (new.left Input)
  pub told : IsTrue old.tells → (p : Plays run old.files) × IsPrefixOf (new.written Output) (written_by (meant p) old Output)

-- what a refused run leaves of the output
abbrev pub LeavesOutput : (words : List (List ℕ)) → Refusal → (old new : DeskState) → Type 0
LeavesOutput words refusal old new = KeepsOutput old new ⊎ HasPlayedPart words refusal old new

-- The output was begun, and has the head and what the frames make of those blocks that lie wholly within the frames that are present.
pub record HasPlayedPresent (run : Run) (old new : DeskState) : Type 0 where
  pub begun : HasBegun old new
  pub plays : Plays run old.files
  pub frame : ℕ
  pub cut : IsCutAt run.settings.block plays.format.frames plays.changes (length (present_in plays.format plays.source)) frame
  pub written : new.written Output ≡ written_by (meant_to plays frame) old Output

-- Where the input ends too early, its head does not say all, or the frames that are present were played.
abbrev pub CutsShort : (words : List (List ℕ)) → Refusal → (old new : DeskState) → Type 0
CutsShort words refusal old new =
    (c : Coding) (place : ℕ) → refusal ≡ truncated c place → IsTrue old.tells
    → (run : Run) × Asks words (Playing run) × (HasInput run.manner.input run.input old.files (Err refusal) ⊎ HasPlayedPresent run old new)

-- the roles that are read for what the words ask for
abbrev pub IsRead : (words : List (List ℕ)) → Role → Type 0
IsRead words r = (job : Job) × Asks words job × IsReadBy job r

-- What is not touched: the bytes left of roles that are not read, the bytes written of roles other than the output and the report,
-- and the begins of roles other than the output.
pub record KeepsOthers (Reads : Role → Type 0) (old new : DeskState) : Type 0 where
  pub left : IsTrue old.tells → (r : Role) → (Reads r → ⊥) → new.left r ≡ old.left r
  pub written : IsTrue old.tells → (r : Role) → r ≢ Output → r ≢ Report → new.written r ≡ old.written r
  pub begins : (r : Role) → r ≢ Output → new.begins r ≡ old.begins r

-- a part of the line of what is done, which was reported before its report failed
abbrev pub IsBegunLine : (words : List (List ℕ)) → (old : DeskState) → (part : List ℕ) → Type 0
IsBegunLine words old part = (job : Job) × Asks words job × (IsTrue old.tells → (can : CanDo job old.files) × IsPrefixOf part (meant_of job old.files can).line)

-- What a refused run appends to the report: the refusal's line, or a part of it where the report failed; before it a part
-- of the line of what is done, where the report of that failed.
pub record Reports (words : List (List ℕ)) (refusal : Refusal) (old new : DeskState) : Type 0 where
  pub begun : List ℕ
  pub line : List ℕ
  pub appended : IsTrue old.tells → new.written Report ≡ old.written Report ++ (begun ++ line)
  pub is_line : (line ≡ refused_line refusal) ⊎ (IsPrefixOf line (refused_line refusal) × HasFault Report old new)
  pub is_begun : (begun ≡ []) ⊎ ((refusal ≡ WriteFault Report) × IsBegunLine words old begun)

-- the refusal is that of a fault of the role
abbrev pub IsFaultOf : Role → Refusal → Type 0
IsFaultOf role refusal = (refusal ≡ ReadFault role) ⊎ (refusal ≡ WriteFault role)

-- No fault was counted but the one that is answered; a report may fail a refusal's line too.
abbrev pub HandsOn : Refusal → (old new : DeskState) → Type 0
HandsOn refusal old new = (r : Role) → r ≢ Report → (IsFaultOf r refusal → ⊥) → new.faults r ≡ old.faults r

-- a fact of a run that is done, and of one that was refused
abbrev pub IfDone : Status → (Tally → Type 0) → Type 0
IfDone (Done tally) P = P tally
IfDone (Refused refusal) P = Unit {0}

-- a fact of the refusal, where it was refused
abbrev pub IfRefused : Status → (Refusal → Type 0) → Type 0
IfRefused (Done tally) P = Unit {0}
IfRefused (Refused refusal) P = P refusal

-- done, or out of memory
abbrev pub IsDoneOrNoMemory : Status → Type 0
IsDoneOrNoMemory status = IfRefused status (λ refusal. refusal ≡ NoMemory)

-- What can be done is done: where the words ask for a job and all of its stages pass, it is done, unless memory runs out. It is known
-- what the stages judge, and each turn is sure to be answered or has no fault.
abbrev pub IsComplete : (words : List (List ℕ)) → (old new : DeskState) → Status → Type 0
IsComplete words old new status =
    (job : Job) → Asks words job → IsKnown job old → PassesAll (rules_of job old) old new (stages_of job) → IsDoneOrNoMemory status

-- refused for this, or out of memory
abbrev pub IsRefusedOrNoMemory : Refusal → Status → Type 0
IsRefusedOrNoMemory refusal status = (status ≡ Refused refusal) ⊎ (status ≡ Refused NoMemory)

-- Where the first stage that cannot go on refuses for something, the run is refused for it, unless memory runs out.
abbrev pub IsStrict : (words : List (List ℕ)) → (old new : DeskState) → Status → Type 0
IsStrict words old new status =
    (job : Job) (refusal : Refusal) → Asks words job → IsKnown job old → Stops (rules_of job old) old new (stages_of job) refusal
    → IsRefusedOrNoMemory refusal status

-- Words that are refused are refused for their cause.
abbrev pub IsExact : (words : List (List ℕ)) → Status → Type 0
IsExact words status = (cause : Cause) → job_in words ≡ Err cause → status ≡ Refused (Usage cause)
