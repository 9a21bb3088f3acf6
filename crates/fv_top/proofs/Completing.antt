-- A run that can be done is done, and one whose files are refused is refused for them.
use Rattle.std.proofs.Common.{◌≡◌, ℕ, ◌⊎◌, List, sym, ◌∙◌, ap, subst, inl, inr}
use Rattle.std.specs.Prelude.{Some, Option, Result, Ok, Err}
use Rattle.fv_outside.specs.headline.Requests.{Request}
use Rattle.fv_outside.specs.headline.Desk.{DeskState, File, file_named}
use Rattle.fv_diagram.specs.declared.control.ControlInfo.{ControlInfo}
use Rattle.fv_top_words.specs.declared.manner.ProgramKind.TheVariants.{Alone}
use Rattle.fv_top_words.specs.headline.Runs.{Run}
use Rattle.fv_top_words.specs.headline.Commands.{Job, Playing, Checking, Making}
use Rattle.fv_top_report.specs.declared.refusal.Refusal.{Refusal}
use Rattle.fv_top_report.specs.declared.refusal.Refusal.TheVariants.{NoMemory}
use Rattle.fv_top_report.specs.declared.status.Tally.{Tally}
use Rattle.fv_top_report.specs.declared.status.Status.TheVariants.{Done, Refused}
use Rattle.fv_top_program.specs.Answers.{IsOnce}
use Rattle.fv_top_program.specs.headline.Compiled.{Compiled}
use Rattle.fv_top_program.specs.headline.Program.{TextIs}
use Rattle.fv_top_program.specs.Program.{IsOneText}
use Rattle.fv_top_program.specs.headline.Kinds.{FileIs}
use Rattle.fv_top_program.specs.Kinds.{IsOneFile}
use Rattle.fv_top_words.specs.declared.manner.InputKind.{InputKind}
use Rattle.fv_top_files.specs.headline.Sources.{Source, found, script_of, source_of}
use Rattle.fv_top_files.specs.headline.Output.{coding_of, format_of, cut_in}
use Rattle.fv_top_files.specs.headline.Loading.{HasScript, HasInput}
use Rattle.fv_top.specs.headline.Stages.{Ends, Rules}
use Rattle.fv_top.specs.inner.Stages.{IsJudge}
use Rattle.fv_top.specs.headline.Promise.{Asks, HasProgram, HasProgramOf, HasNoProgram, Plays, IsWhole, Stage, ReadProgram, ReadScript}
use Rattle.fv_top.specs.headline.Promise.{ReadHead, Fit, Write, Tell, StagePasses, StageRefuses, rules_of, stages_of, IsKnown, CanDo}
use Rattle.fv_top.specs.headline.Promise.{HasCause, bad_words, of_job, HasDone, IsComplete, IsStrict, IsExact, IsRefusedOrNoMemory}
use Rattle.fv_top.proofs.StageLaws.{exactly, completes, passes_apart}

-- ---- a name has one file, and a file says one thing

one_file : (name : List ℕ) (files : List File) (a b : List ℕ) → file_named name files ≡ Some a → file_named name files ≡ Some b → a ≡ b
one_file name files a b h k = let e : Some a ≡ Some b = sym h ∙ k in cc

one_found : (name : Option (List ℕ)) (files : List File) (a b : Option (List ℕ)) → found files name ≡ Some a → found files name ≡ Some b → a ≡ b
one_found name files a b h k = let e : Some a ≡ Some b = sym h ∙ k in cc

module _ (Is : List ℕ → Result Compiled Refusal → Type 0) (once : IsOnce Is) (name : List ℕ) (files : List File) where
  one_text : (a b : Refusal) → HasNoProgram Is name files a → HasNoProgram Is name files b → a ≡ b
  one_text a b h k =
      let same = one_file name files _ _ k.file h.file in
      let e = once h.text (Err a) (Err b) h.refused (subst (λ (w : List ℕ). Is w (Err b)) same k.refused) in
      cc

  program_apart : (refusal : Refusal) → HasProgram Is name files → HasNoProgram Is name files refusal → ⊥
  program_apart refusal p h =
      let same = one_file name files _ _ p.file h.file in
      let e = once h.text (Ok p.compiled) (Err refusal) (subst (λ (w : List ℕ). Is w (Ok p.compiled)) same p.program) h.refused in
      absurd cc

  one_program : (p q : HasProgram Is name files) → p.compiled ≡ q.compiled
  one_program p q =
      let same = one_file name files _ _ q.file p.file in
      let e = once p.text (Ok p.compiled) (Ok q.compiled) p.program (subst (λ (w : List ℕ). Is w (Ok q.compiled)) same q.program) in
      cc

-- and so does that of a run
program_of : (run : Run) (files : List File) → IsOneFile → (p q : HasProgramOf run files) → p.compiled ≡ q.compiled
program_of run files once = one_program (FileIs run.manner.program) (once run.manner.program) run.program files

-- a script says one thing of the same controls
one_script : {name : Option (List ℕ)} {files : List File} {cs ds : List ControlInfo} {a b : _} → cs ≡ ds
    → HasScript name files cs a → HasScript name files ds b → a ≡ b
one_script {name} {files} {cs} {ds} same p q =
    sym p.is ∙ ap (λ w. script_of cs w) (one_found name files _ _ p.file q.file) ∙ ap (λ (w : List ControlInfo). script_of w q.bytes) same ∙ q.is

one_input : {kind : InputKind} {name : Option (List ℕ)} {files : List File} {a b : _} → HasInput kind name files a → HasInput kind name files b → a ≡ b
one_input {kind} {name} {files} p q = sym p.is ∙ ap (source_of kind) (one_found name files _ _ p.file q.file) ∙ q.is

one_source : {kind : InputKind} {name : Option (List ℕ)} {files : List File} {a b : Source} → HasInput kind name files (Ok a)
    → HasInput kind name files (Ok b) → a ≡ b
one_source p q = let e = one_input p q in cc

-- the format of a program on an input
one_format : (run : Run) (files : List File) → IsOneFile → (p q : HasProgramOf run files) (s u : Source)
    → HasInput run.manner.input run.input files (Ok s) → HasInput run.manner.input run.input files (Ok u)
    → format_of (coding_of run.manner.output) run.settings p.compiled.diagram s.head
    ≡ format_of (coding_of run.manner.output) run.settings q.compiled.diagram u.head
one_format run files once p q s u h k =
    ap (λ (c : Compiled). format_of (coding_of run.manner.output) run.settings c.diagram s.head) (program_of run files once p q)
    ∙ ap (λ (w : Source). format_of (coding_of run.manner.output) run.settings q.compiled.diagram w.head) (one_source h k)

-- two runs of the same files are cut short alike
one_cut : (run : Run) (files : List File) → IsOneFile → (p q : Plays run files) → cut_in p.format p.source ≡ cut_in q.format q.source
one_cut run files once p q =
    let e = sym p.fits ∙ one_format run files once p.of q.of p.source q.source p.on q.on ∙ q.fits in
    let same : p.format ≡ q.format = cc in
    ap (λ s. cut_in s p.source) same ∙ ap (λ (w : Source). cut_in q.format w) (one_source p.on q.on)

-- ---- the stages of a run judge

once_in : (run : Run) (files : List File) → IsOneFile → (s : Stage) (a b : Refusal) → StageRefuses (Playing run) files s a →
    StageRefuses (Playing run) files s b → a ≡ b
once_in run files once ReadProgram a b h k = one_text (FileIs run.manner.program) (once run.manner.program) run.program files a b h k
once_in run files once ReadScript a b h k =
    let e = one_script (ap (λ (c : Compiled). c.controls) (program_of run files once h.0 k.0)) h.1 k.1 in cc
once_in run files once ReadHead a b h k = let e = one_input h k in cc
once_in run files once Fit a b h k = let e = sym h.3 ∙ one_format run files once h.0 k.0 h.1 k.1 h.2 k.2 ∙ k.3 in cc
once_in run files once Write a b h k = let e = sym h.1 ∙ one_cut run files once h.0 k.0 ∙ k.1 in cc
once_in run files once Tell a b h k = absurd h

apart_in : (run : Run) (files : List File) → IsOneFile → (s : Stage) (a : Refusal)
    → StagePasses (Playing run) files s → StageRefuses (Playing run) files s a → ⊥
apart_in run files once ReadProgram a p h = program_apart (FileIs run.manner.program) (once run.manner.program) run.program files a p h
apart_in run files once ReadScript a p h =
    let e = one_script (ap (λ (c : Compiled). c.controls) (program_of run files once p.0 h.0)) p.2 h.1 in absurd cc
apart_in run files once ReadHead a p h = let e = one_input p.1 h in absurd cc
apart_in run files once Fit a p h = let e = sym p.fits ∙ one_format run files once p.of h.0 p.source h.1 p.on h.2 ∙ h.3 in absurd cc
apart_in run files once Write a p h = let e = sym p.1 ∙ one_cut run files once p.0 h.0 ∙ h.1 in absurd cc
apart_in run files once Tell a p h = h

-- and so do those of a check
check_once : (name : List ℕ) (files : List File) → IsOneText → (s : Stage) (a b : Refusal) → StageRefuses (Checking name) files s a →
    StageRefuses (Checking name) files s b → a ≡ b
check_once name files once ReadProgram a b h k = one_text TextIs once name files a b h k
check_once name files once ReadScript a b h k = absurd h
check_once name files once ReadHead a b h k = absurd h
check_once name files once Fit a b h k = absurd h
check_once name files once Write a b h k = absurd h
check_once name files once Tell a b h k = absurd h

check_apart : (name : List ℕ) (files : List File) → IsOneText → (s : Stage) (a : Refusal) → StagePasses (Checking name) files s →
    StageRefuses (Checking name) files s a → ⊥
check_apart name files once ReadProgram a p h = program_apart TextIs once name files a p h
check_apart name files once ReadScript a p h = h
check_apart name files once ReadHead a p h = h
check_apart name files once Fit a p h = h
check_apart name files once Write a p h = h
check_apart name files once Tell a p h = h

judges : (job : Job) (old : DeskState) → IsOneFile → IsJudge (rules_of job old)
judges (Playing run) old once = record { once = once_in run old.files once; apart = apart_in run old.files once }
judges (Checking name) old once = record { once = check_once name old.files (once Alone); apart = check_apart name old.files (once Alone) }
judges (Making voices frames workers) old once = record { once = λ s a b h k. absurd h; apart = λ s a p h. h }

-- words ask for one thing
one_command : (words : List (List ℕ)) (a b : Job) → Asks words a → Asks words b → a ≡ b
one_command words a b h k = let e = sym h ∙ k in cc

-- the stages of what was refused are those of its words
ends_of : (words : List (List ℕ)) (job : Job) (old new : DeskState) (e : Refusal) (asked : List Request) → Asks words job
    → HasCause words old new e asked → (rs : List Request) × Ends (rules_of job old) old new (stages_of job) e rs
ends_of words job old new e asked asks (bad_words h) = let f = sym asks ∙ h in absurd cc
ends_of words job old new e asked asks (of_job other named h) =
    (asked, subst (λ (n : Job). Ends (rules_of n old) old new (stages_of n) e asked) (one_command words other job named asks) h)

-- ---- a run that is done
pub done_exact : {words : List (List ℕ)} {frames : ℕ} {old new : DeskState} (tally : Tally) → HasDone words frames old new → IsExact words (Done tally)
done_exact tally p cause h = let f = sym p.asks ∙ h in absurd cc

passes_in : (run : Run) (files : List File) → (p : Plays run files) → IsWhole p → (s : Stage) → StagePasses (Playing run) files s
passes_in run files p whole ReadProgram = p.of
passes_in run files p whole ReadScript = (p.of, p.changes, p.under)
passes_in run files p whole ReadHead = (p.source, p.on)
passes_in run files p whole Fit = p
passes_in run files p whole Write = (p, whole)
passes_in run files p whole Tell = tt

check_passes : (name : List ℕ) (files : List File) → HasProgram TextIs name files → (s : Stage) → StagePasses (Checking name) files s
check_passes name files p ReadProgram = p
check_passes name files p ReadScript = tt
check_passes name files p ReadHead = tt
check_passes name files p Fit = tt
check_passes name files p Write = tt
check_passes name files p Tell = tt

-- each stage of what can be done passes
passes_of : (job : Job) (old : DeskState) → CanDo job old.files → (s : Stage) → Rules.Passes (rules_of job old) s
passes_of (Playing run) old can s = passes_in run old.files can.0 can.1 s
passes_of (Checking name) old can s = check_passes name old.files can s
passes_of (Making voices frames workers) old can s = tt

pub done_strict : {words : List (List ℕ)} {frames : ℕ} {old new : DeskState} (tally : Tally) → IsOneFile → HasDone words frames old new
    → IsStrict words old new (Done tally)
done_strict {words} {frames} {old} {new} tally once p job wanted asks known stops =
    let same = one_command words p.job job p.asks asks in
    let can = (p.told (subst (λ (n : Job). IsKnown n old) (sym same) known)).0 in
    let passes = subst (λ (n : Job). (s : Stage) → Rules.Passes (rules_of n old) s) same (passes_of p.job old can) in
    absurd (passes_apart (rules_of job old) old new (judges job old once) (stages_of job) wanted passes stops)

-- ---- a run that was refused
pub refused_exact : {words : List (List ℕ)} {old new : DeskState} {e : Refusal} {asked : List Request} → HasCause words old new e asked
    → IsExact words (Refused e)
refused_exact (bad_words h) cause k = let f = sym h ∙ k in cc
refused_exact (of_job job asks h) cause k = let f = sym asks ∙ k in absurd cc

as_status : (wanted got : Refusal) → (got ≡ wanted) ⊎ (got ≡ NoMemory) → IsRefusedOrNoMemory wanted (Refused got)
as_status wanted got (inl e) = inl (ap Refused e)
as_status wanted got (inr e) = inr (ap Refused e)

pub refused_strict : {words : List (List ℕ)} {old new : DeskState} {e : Refusal} {asked : List Request} → HasCause words old new e asked → IsOneFile
    → IsStrict words old new (Refused e)
refused_strict {words} {old} {new} {e} {asked} cause once job wanted asks known stops =
    let ends = ends_of words job old new e asked asks cause in
    as_status wanted e (exactly (rules_of job old) old new (judges job old once) known (stages_of job) wanted e ends.0 stops ends.1)

pub refused_complete : {words : List (List ℕ)} {old new : DeskState} {e : Refusal} {asked : List Request} → HasCause words old new e asked → IsOneFile
    → IsComplete words old new (Refused e)
refused_complete {words} {old} {new} {e} {asked} cause once job asks known passes =
    let ends = ends_of words job old new e asked asks cause in
    completes (rules_of job old) old new (judges job old once) known (stages_of job) e ends.0 passes ends.1
