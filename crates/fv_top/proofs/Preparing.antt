-- What is read before anything is written, one file after another, and why that stops.
use Rattle.std.proofs.Common.{◌≡◌, ℕ, List, [], ◌∷◌, ◌++◌, sym, ◌∙◌, ap, subst, refl}
use Rattle.std.specs.Prelude.{IsTrue, Some, None, Option, Ok, Err, Result, is_some, option_map}
use Rattle.fv_base.specs.declared.role.Role.TheVariants.{Program, Controls, Input}
use Rattle.fv_outside.specs.headline.Requests.{Request, to_read}
use Rattle.fv_outside.specs.headline.Desk.{DeskState, File, KeepsFaults}
use Rattle.fv_outside.proofs.lemmas.States.{told_before}
use Rattle.fv_control.specs.declared.script.Change.{Change}
use Rattle.fv_top_words.specs.headline.Runs.{Run, Settings}
use Rattle.fv_top_words.specs.headline.Commands.{Playing}
use Rattle.fv_file_tape.specs.declared.incoming.Incoming.{Incoming}
use Rattle.fv_top_report.specs.declared.refusal.Refusal.{Refusal}
use Rattle.fv_top_report.specs.declared.refusal.Refusal.TheVariants.{NoMemory}
use Rattle.fv_top_program.specs.headline.Kinds.{FileIs}
use Rattle.fv_top_program.specs.Kinds.{IsOfKind}
use Rattle.fv_top_program.specs.headline.Compiled.{Compiled}
use Rattle.fv_top_files.specs.headline.Output.{OutputFormat, coding_of, format_of}
use Rattle.fv_top_files.specs.headline.Loading.{HasScript, HasInput, reading}
use Rattle.fv_top_files.specs.Loading.{ReadsFile, IsFile, HasHead, IsLeft, IsHeadRefusal}
use Rattle.fv_top.specs.headline.Stages.{Ends, here, later, judged, want_of_memory}
use Rattle.fv_top.specs.headline.Promise.{IsReadBy, ReadProgram, ReadScript, ReadHead, Fit, HasProgramOf, HasNoProgram, Plays, Stage, rules_of}
use Rattle.fv_top.specs.inner.Promise.{IsScriptRefusal}
use Rattle.fv_top.specs.inner.Running.{Reaches, StopsBefore, asked_before}
use Rattle.fv_top_files.specs.declared.format.OutputFormat.{OutputFormat as Made}
use Rattle.fv_top_files.specs.declared.input.Loaded.{Loaded}
use Rattle.fv_top.specs.declared.prepare.Prepared.{Prepared}
use Rattle.fv_top_files.specs.Formats.{format_in}
use Rattle.fv_top_files.specs.Loaded.{held_in}
use Rattle.fv_top.specs.inner.Prepared.{IsMadeOf, IsOfFiles}
use Rattle.fv_top.proofs.Reaching.{FailsToLoad, reaches_nothing, reaches_file, reaches_on, loading_halts, load_faults, no_kind, fit_kind}

-- ---- what was read so far

-- the program is what is played of its file
pub record HasText (run : Run) (p : Compiled) (a : DeskState) : Type 0 where
  pub text : List ℕ
  pub file : IsFile run.program text a
  pub program : FileIs run.manner.program text (Ok p)

-- this program
pub record AfterProgram (run : Run) (p : Compiled) (a b : DeskState) : Type 0 where
  pub of : HasText run p a
  pub reaches : Reaches (IsReadBy (Playing run)) (to_read Program run.program ∷ []) a b
  pub before : KeepsFaults a b

-- and the changes of its controls
pub record AfterScript (run : Run) (p : Compiled) (changes : List Change) (a b : DeskState) : Type 0 where
  pub of : HasText run p a
  pub under : IsTrue a.tells → HasScript run.controls a.files p.controls (Ok changes)
  pub reaches : Reaches (IsReadBy (Playing run)) (to_read Program run.program ∷ reading Controls run.controls) a b
  pub before : KeepsFaults a b

-- and the head of the input
pub record AfterHead (run : Run) (p : Compiled) (changes : List Change) (head : Option Incoming) (held : Option (List ℕ)) (a b : DeskState) : Type 0 where
  pub of : HasText run p a
  pub under : IsTrue a.tells → HasScript run.controls a.files p.controls (Ok changes)
  pub on : IsTrue a.tells → HasHead run.manner.input run.input a.files head held (b.left Input)
  pub reaches : Reaches (IsReadBy (Playing run)) (asked_before run) a b
  pub before : KeepsFaults a b

abbrev has : {run : Run} {p : Compiled} {a : DeskState} → HasText run p a → IsTrue a.tells → HasProgramOf run a.files
has {p = p} of t = record { text = of.text; file = of.file t; compiled = p; program = of.program }

pub after_program : {run : Run} {p : Compiled} {a b : DeskState} → ReadsFile Program (Some run.program) a b → KeepsFaults a b
    → (text : List ℕ) × IsFile run.program text a × FileIs run.manner.program text (Ok p) → AfterProgram run p a b
after_program {run} {a = a} q steady s = record {
  of = record { text = s.0; file = s.1; program = s.2 };
  reaches = reaches_file {Reads = IsReadBy (Playing run)} {role = Program} (λ named. tt) (reaches_nothing (IsReadBy (Playing run)) a) q;
  before = steady;
}

pub after_script : {run : Run} {p : Compiled} {changes : List Change} {a b c : DeskState} → AfterProgram run p a b → ReadsFile Controls run.controls b c
    → KeepsFaults b c → (IsTrue b.tells → HasScript run.controls b.files p.controls (Ok changes)) → AfterScript run p changes a c
after_script {run} {p} {changes} w q steady says = record {
  of = w.of;
  under = λ t.
      let on = w.reaches.quiet.goes_on in
      subst (λ (fs : List File). HasScript run.controls fs p.controls (Ok changes)) (on.files t) (says (told_before on t));
  reaches = reaches_file {Reads = IsReadBy (Playing run)} {role = Controls} (λ named. named) w.reaches q;
  before = λ r. steady r ∙ w.before r;
}

pub after_head : {run : Run} {p : Compiled} {changes : List Change} {head : Option Incoming} {held : Option (List ℕ)} {a b c : DeskState}
    → AfterScript run p changes a b → ReadsFile Input run.input b c → KeepsFaults b c
    → (IsTrue b.tells → HasHead run.manner.input run.input b.files head held (c.left Input)) → AfterHead run p changes head held a c
after_head {run} {head = head} {held = held} {c = c} w q steady says = record {
  of = w.of;
  under = w.under;
  on = λ t.
      let on = w.reaches.quiet.goes_on in
      subst (λ (fs : List File). HasHead run.manner.input run.input fs head held (c.left Input)) (on.files t) (says (told_before on t));
  reaches = reaches_file {Reads = IsReadBy (Playing run)} {role = Input} (λ named. named) w.reaches q;
  before = λ r. steady r ∙ w.before r;
}

-- ---- why it stops

pub stops_program : {run : Run} {a b : DeskState} {e : Refusal}
    → FailsToLoad Program (Some run.program) (IsOfKind run.manner.program) (HasNoProgram (FileIs run.manner.program) run.program a.files) a b e
    → StopsBefore run a b e
stops_program {run} {a} {b} {e} f =
    let P = HasNoProgram (FileIs run.manner.program) run.program a.files in
    record {
      asked = to_read Program run.program ∷ [];
      reaches = reaches_file {Reads = IsReadBy (Playing run)} {role = Program} (λ named. tt) (reaches_nothing (IsReadBy (Playing run)) a) f.reads;
      ends = here (loading_halts run ReadProgram Program (Some run.program) P tt (reaches_nothing (IsReadBy (Playing run)) a) (λ s. refl) (λ x. x)
          (λ t r h. h) f.stops);
      faults = load_faults a f (no_kind run.manner.program Program) (λ r. refl);
    }

pub stops_script : {run : Run} {p : Compiled} {a b c : DeskState} {e : Refusal} → AfterProgram run p a b
    → FailsToLoad Controls run.controls IsScriptRefusal (λ r. HasScript run.controls b.files p.controls (Err r)) b c e → StopsBefore run a c e
stops_script {run} {p} {a} {b} {c} {e} w f =
    let P : Refusal → Type 0 = λ r. HasScript run.controls b.files p.controls (Err r) in
    let on = w.reaches.quiet.goes_on in
    record {
      asked = to_read Program run.program ∷ reading Controls run.controls;
      reaches = reaches_file {Reads = IsReadBy (Playing run)} {role = Controls} (λ named. named) w.reaches f.reads;
      ends = later (has w.of) (here (loading_halts run ReadScript Controls run.controls P tt w.reaches (λ s. (refl, s)) (λ x. x)
          (λ t r h. (has w.of t, subst (λ (fs : List File). HasScript run.controls fs p.controls (Err r)) (on.files t) h)) f.stops));
      faults = load_faults a f (λ h. absurd cc) w.before;
    }

pub stops_head : {run : Run} {p : Compiled} {changes : List Change} {a b c : DeskState} {e : Refusal} → AfterScript run p changes a b
    → FailsToLoad Input run.input IsHeadRefusal (λ r. HasInput run.manner.input run.input b.files (Err r)) b c e → StopsBefore run a c e
stops_head {run} {p} {changes} {a} {b} {c} {e} w f =
    let P : Refusal → Type 0 = λ r. HasInput run.manner.input run.input b.files (Err r) in
    let on = w.reaches.quiet.goes_on in
    record {
      asked = asked_before run;
      reaches = reaches_file {Reads = IsReadBy (Playing run)} {role = Input} (λ named. named) w.reaches f.reads;
      ends = later (has w.of) (later (λ t. (has w.of t, changes, w.under t))
          (here (loading_halts run ReadHead Input run.input P tt w.reaches (λ s. (refl, s)) (λ x. x)
          (λ t r h. subst (λ (fs : List File). HasInput run.manner.input run.input fs (Err r)) (on.files t) h) f.stops)));
      faults = load_faults a f (λ h. absurd cc) w.before;
    }

-- ---- after the head

module _ {run : Run} {p : Compiled} {changes : List Change} {head : Option Incoming} {held : Option (List ℕ)} {a b : DeskState}
    (w : AfterHead run p changes head held a b) where
  -- the stages up to the head passed
  passed : (c : DeskState) (e : Refusal) (rest : List Stage) (asked : List Request) → Ends (rules_of (Playing run) a) a c (Fit ∷ rest) e asked
      → Ends (rules_of (Playing run) a) a c (ReadProgram ∷ ReadScript ∷ ReadHead ∷ Fit ∷ rest) e
      (to_read Program run.program ∷ (reading Controls run.controls ++ (reading Input run.input ++ asked)))
  passed c e rest asked h =
      later (has w.of) (later (λ t. (has w.of t, changes, w.under t)) (later (λ t. ((w.on t).source, (w.on t).input)) h))

  -- the format of what was read
  pub format_is : (r : Result OutputFormat Refusal) → format_of (coding_of run.manner.output) run.settings p.diagram head ≡ r → (t : IsTrue a.tells)
      → format_of (coding_of run.manner.output) run.settings p.diagram (w.on t).source.head ≡ r
  format_is r is t = ap (λ (h : Option Incoming). format_of (coding_of run.manner.output) run.settings p.diagram h) (w.on t).is ∙ is

  -- the format does not fit
  pub stops_fit : (e : Refusal) → format_of (coding_of run.manner.output) run.settings p.diagram head ≡ Err e → StopsBefore run a b e
  stops_fit e is =
      let refused =
      judged (fit_kind (coding_of run.manner.output) run.settings p.diagram head e is)
      (λ t. (has w.of t, (w.on t).source, (w.on t).input, format_is (Err e) is t)) in
      record {
        asked = to_read Program run.program ∷ (reading Controls run.controls ++ (reading Input run.input ++ []));
        reaches = reaches_on run a b w.reaches;
        ends = passed b e _ [] (here refused);
        faults = λ r other. w.before r;
      }

  module _ (format : OutputFormat) (is : format_of (coding_of run.manner.output) run.settings p.diagram head ≡ Ok format) where
    -- it does
    abbrev pub plays : IsTrue a.tells → Plays run a.files
    plays t = record {
      of = has w.of t;
      changes = changes;
      under = w.under t;
      source = (w.on t).source;
      on = (w.on t).input;
      format = format;
      fits = format_is (Ok format) is t;
    }

    -- it is ready to be played, of these files
    pub files_are : {name : List ℕ} {loaded : Loaded} {made : Made} {q : Prepared} → loaded.head ≡ head → held_in loaded ≡ held → format_in made ≡ format
        → IsMadeOf name run.settings changes loaded made q → IsTrue a.tells → IsOfFiles run a b p q
    files_are {q = q} heads holds formats m t =
        let h = w.on t in
        let same = sym (m.held ∙ holds) in
        record {
          plays = plays t;
          program = refl;
          changes = sym m.script;
          format = sym (ap format_in m.format ∙ formats);
          input = m.input ∙ heads ∙ sym h.is;
          behind = subst (λ k. IsLeft h.source.head k h.source.bytes (b.left Input)) same
              (subst (λ k. IsLeft k held h.source.bytes (b.left Input)) (sym h.is) h.behind);
        }

  -- memory runs out
  pub stops_memory : StopsBefore run a b NoMemory
  stops_memory = record {
    asked = to_read Program run.program ∷ (reading Controls run.controls ++ (reading Input run.input ++ []));
    reaches = reaches_on run a b w.reaches;
    ends = passed b NoMemory _ [] (here (want_of_memory tt));
    faults = λ r other. w.before r;
  }

-- there is an input where one is named
pub named_is : {name : List ℕ} {settings : Settings} {changes : List Change} {loaded : Loaded} {made : Made} {q : Prepared}
    (input : Option (List ℕ)) → IsMadeOf name settings changes loaded made q → is_some loaded.head ≡ is_some input → is_some q.tape.input ≡ is_some input
named_is {loaded = loaded} input m named = ap is_some m.input ∙ named
