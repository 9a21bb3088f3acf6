use Rattle.std.proofs.Common.{◌≡◌, ℕ, ◌^◌, ◌<◌, ◌≤◌, List, length, sym, ◌∙◌, ap, ap₂, subst, refl}
use Rattle.std.specs.Prelude.{Ok, Err, Some, Option, Result}
use Rattle.fv_base.specs.declared.limits.TheConstants.{MOST_CHANNELS}
use Rattle.fv_diagram.specs.headline.Diagram.{Diagram, inputs, outputs}
use Rattle.std.specs.List.{AllByRecursion}
use Rattle.std.proofs.lemmas.Result.{err_from_is_err_and}
use Rattle.fv_base.specs.declared.role.Role.TheVariants.{Program, Controls, Input}
use Rattle.fv_diagram.specs.declared.control.ControlInfo.{ControlInfo}
use Rattle.fv_control.specs.Laws.{IsOfControls}
use Rattle.fv_top_words.specs.headline.Runs.{Run, Settings}
use Rattle.fv_top_words.specs.Views.{run_in as run_view}
use Rattle.fv_top_report.specs.declared.refusal.Refusal.{Refusal}
use Rattle.fv_top_files.specs.headline.Loading.{HasScript, HasInput}
use Rattle.fv_top_files.specs.Loading.{StopsLoading, IsHeadRefusal}
use Rattle.fv_top_program.specs.headline.Compiled.{Compiled}
use Rattle.fv_top_program.specs.headline.Kinds.{FileIs}
use Rattle.fv_top_program.specs.Kinds.{IsOfKind}
use Rattle.fv_top_files.specs.Formats.{format_in}
use Rattle.fv_top_files.specs.Loaded.{held_in}
use Rattle.fv_pcm.specs.declared.coding.Coding.{Coding}
use Rattle.fv_file_tape.specs.declared.incoming.Incoming.{Incoming}
use Rattle.fv_top_files.specs.headline.Output.{OutputFormat, coding_of, format_for, format_of}
use Rattle.fv_top.specs.headline.Promise.{HasNoProgram}
use Rattle.fv_top.specs.inner.Promise.{IsScriptRefusal}
use Rattle.fv_top.proofs.Preparing.{AfterProgram, AfterScript, AfterHead, after_program, after_script, after_head}
use Rattle.fv_top.proofs.Preparing.{stops_program, stops_script, stops_head, stops_fit, stops_memory, files_are, named_is}
use Rattle.fv_top.proofs.Reaching.{FailsToLoad, fits_frames}
use Rattle.fv_top.proofs.Wholes.{read_whole}
use Rattle.fv_top.proofs.prepare.prepare.Given.{Over}
use Rattle.fv_top.proofs.prepare.prepare.Goals as goal
use Rattle.fv_top.proofs.prepare.prepare.Goals.{In_ok-playable, In_ok-script, In_ok-loaded}

-- ---- what was read so far

abbrev program : (g : Over) (c : In_ok-playable g) → Compiled
program g c = c.in_ok-playable.ensures.found.compiled

program_read : (g : Over) (c : In_ok-playable g)
    → AfterProgram (run_view c.args.run.now) (program g c) (g.D.Desk.state c.args.desk.now) (g.D.Desk.state c.load_playable.new.desk)
program_read g c =
    let found = c.in_ok-playable.ensures.found in
    after_program c.load_playable.ensures.reads (c.in_ok-playable.ensures.steady (λ is. absurd cc)) (found.text, found.file, found.is)

script_read : (g : Over) (c : In_ok-script g) (p : Compiled) → c.in_ok-playable.playable.controls.items ≡ p.controls
    → AfterProgram (run_view c.args.run.now) p (g.D.Desk.state c.args.desk.now) (g.D.Desk.state c.load_playable.new.desk)
    → AfterScript (run_view c.args.run.now) p c.in_ok-script.script (g.D.Desk.state c.args.desk.now) (g.D.Desk.state c.load_script.new.desk)
script_read g c p controls w =
    let run : Run = run_view c.args.run.now in
    let files = (g.D.Desk.state c.load_playable.new.desk).files in
    let Says : List ControlInfo → Type 0 = λ cs. HasScript run.controls files cs (Ok c.in_ok-script.script) in
    let same = c.deref.ensures.value ∙ controls in
    after_script w c.load_script.ensures.reads (c.in_ok-script.ensures.steady (λ is. absurd cc)) (λ t. subst Says same (c.in_ok-script.ensures.spelled t))

head_read : (g : Over) (c : In_ok-loaded g) (p : Compiled)
    → AfterScript (run_view c.args.run.now) p c.in_ok-script.script (g.D.Desk.state c.args.desk.now) (g.D.Desk.state c.load_script.new.desk)
    → AfterHead (run_view c.args.run.now) p c.in_ok-script.script c.in_ok-loaded.loaded.head (held_in c.in_ok-loaded.loaded)
    (g.D.Desk.state c.args.desk.now)
    (g.D.Desk.state c.load_head.new.desk)
head_read g c p w = after_head w c.load_head.ensures.reads (c.in_ok-loaded.ensures.steady (λ is. absurd cc)) c.in_ok-loaded.ensures.headed

-- the format of a program with these channels
format_is : (out : Coding) (s : Settings) (d : Diagram) (n m : ℕ) (head : Option Incoming) (r : Result OutputFormat Refusal) → n ≡ inputs d → m ≡ outputs d
    → r ≡ format_for out s n m head → format_of out s d head ≡ r
format_is out s d n m head r i o is = sym (is ∙ ap₂ (λ x y. format_for out s x y head) i o)

-- ---- why it stops

pub returns-in_err-playable-clause-stops : goal.returns-in_err-playable-clause-stops
returns-in_err-playable-clause-stops g c =
    let run : Run = run_view c.args.run.now in
    let a = g.D.Desk.state c.args.desk.now in
    let fails : FailsToLoad Program (Some run.program) (IsOfKind run.manner.program)
    (HasNoProgram (FileIs run.manner.program) run.program a.files) a (g.D.Desk.state c.load_playable.new.desk)
    c.in_err-playable.field-0.0 = record {
      reads = c.load_playable.ensures.reads;
      stops = c.in_err-playable.ensures.err;
      steady = λ other. c.in_err-playable.ensures.steady (λ is. other cc);
    } in
    let q = err_from_is_err_and c.from_residual.result c.from_residual.ensures.1 in
    rw (q.1, q.2) (stops_program fails)

pub returns-in_err-script-clause-stops : goal.returns-in_err-script-clause-stops
returns-in_err-script-clause-stops g c =
    let at = goal.at.returns-in_err-script-clause-stops g c in
    let run : Run = run_view c.args.run.now in
    let found = c.in_ok-playable.ensures.found in
    let b = g.D.Desk.state c.load_playable.new.desk in
    let d = g.D.Desk.state c.load_script.new.desk in
    let e = c.in_err-script.field-0.0 in
    let Says : List ControlInfo → Refusal → Type 0 = λ cs r. HasScript run.controls b.files cs (Err r) in
    let same = c.deref.ensures.value ∙ found.playable.controls in
    let fails : FailsToLoad Controls run.controls IsScriptRefusal (Says found.compiled.controls) b d e = record {
      reads = c.load_script.ensures.reads;
      stops = subst (λ (cs : List ControlInfo). StopsLoading Controls run.controls IsScriptRefusal (Says cs) b d e) same c.in_err-script.ensures.err;
      steady = λ other. c.in_err-script.ensures.steady (λ is. other cc);
    } in
    let q = err_from_is_err_and c.from_residual-in_err-script.result c.from_residual-in_err-script.ensures.1 in
    rw (q.1, q.2) (stops_script (program_read g at.In_ok-playable) fails)

pub returns-in_err-loaded-clause-stops : goal.returns-in_err-loaded-clause-stops
returns-in_err-loaded-clause-stops g c =
    let at = goal.at.returns-in_err-loaded-clause-stops g c in
    let run : Run = run_view c.args.run.now in
    let d = g.D.Desk.state c.load_script.new.desk in
    let fails : FailsToLoad Input run.input IsHeadRefusal (λ r. HasInput run.manner.input run.input d.files (Err r)) d
    (g.D.Desk.state c.load_head.new.desk)
    c.in_err-loaded.field-0.0 = record {
      reads = c.load_head.ensures.reads;
      stops = c.in_err-loaded.ensures.err;
      steady = λ other. c.in_err-loaded.ensures.steady (λ is. other cc);
    } in
    let q = err_from_is_err_and c.from_residual-in_err-loaded.result c.from_residual-in_err-loaded.ensures.1 in
    rw (q.1, q.2) (stops_head (script_read g at.In_ok-script (program g at.In_ok-playable) c.in_ok-playable.ensures.found.playable.controls
    (program_read g at.In_ok-playable)) fails)

pub returns-in_err-format-clause-stops : goal.returns-in_err-format-clause-stops
returns-in_err-format-clause-stops g c =
    let at = goal.at.returns-in_err-format-clause-stops g c in
    let w = head_read g at.In_ok-loaded (program g at.In_ok-playable) (script_read g at.In_ok-script (program g at.In_ok-playable)
    c.in_ok-playable.ensures.found.playable.controls (program_read g at.In_ok-playable)) in
    let q = err_from_is_err_and c.from_residual-in_err-format.result c.from_residual-in_err-format.ensures.1 in
    let found = c.in_ok-playable.ensures.found.playable in
    let run : Run = run_view c.args.run.now in
    let is = format_is (coding_of run.manner.output) run.settings c.in_ok-playable.ensures.found.compiled.diagram _ _ c.in_ok-loaded.loaded.head
    (Err c.in_err-format.field-0.0) found.inputs found.outputs c.in_err-format.ensures.format in
    rw (q.1, q.2) (stops_fit w c.in_err-format.field-0.0 is)

pub returns-in_err-prepared-clause-stops : goal.returns-in_err-prepared-clause-stops
returns-in_err-prepared-clause-stops g c =
    let at = goal.at.returns-in_err-prepared-clause-stops g c in
    let w = head_read g at.In_ok-loaded (program g at.In_ok-playable) (script_read g at.In_ok-script (program g at.In_ok-playable)
    c.in_ok-playable.ensures.found.playable.controls (program_read g at.In_ok-playable)) in
    let q = err_from_is_err_and c.from_residual-in_err-prepared.result c.from_residual-in_err-prepared.ensures.1 in
    rw (q.1, q.2) (stops_memory w)

-- ---- what is asked of the parts

pub fit-requires-clause-some : goal.fit-requires-clause-some
fit-requires-clause-some g c =
    let found = c.in_ok-playable.ensures.found.playable in
    subst (λ n. 1 ≤ n) (sym found.outputs) found.plays.some

pub fit-requires-clause-few : goal.fit-requires-clause-few
fit-requires-clause-few g c =
    let found = c.in_ok-playable.ensures.found.playable in
    subst (λ n. n ≤ MOST_CHANNELS) (sym found.outputs) found.plays.few

pub load_script-requires : goal.load_script-requires
load_script-requires g c =
    let found = c.in_ok-playable.ensures.found.playable in
    subst (λ (cs : List ControlInfo). length cs < 2 ^ 32) (sym (c.deref.ensures.value ∙ found.controls)) found.plays.controls

pub fit-requires-clause-head : goal.fit-requires-clause-head
fit-requires-clause-head g c = λ x e. (c.in_ok-loaded.ensures.ranges x e).0

pub take_memory-requires-clause-playable : goal.take_memory-requires-clause-playable
take_memory-requires-clause-playable g c = let found = c.in_ok-playable.ensures.found in (found.compiled, found.playable)

pub take_memory-requires-clause-lawful : goal.take_memory-requires-clause-lawful
take_memory-requires-clause-lawful g c =
    let P : List ControlInfo → Type 0 = λ cs. AllByRecursion (IsOfControls cs) c.in_ok-script.script in
    subst P c.deref.ensures.value c.in_ok-script.ensures.lawful

pub take_memory-requires-clause-frames : goal.take_memory-requires-clause-frames
take_memory-requires-clause-frames g c = λ h named.
    let run : Run = run_view c.args.run.now in
    let found = c.in_ok-playable.ensures.found in
    let d = found.compiled.diagram in
    let out = coding_of run.manner.output in
    fits_frames out run.settings d h (format_in c.in_ok-format.format)
    (ap (format_of out run.settings d) (sym named)
    ∙ format_is out run.settings d _ _ c.in_ok-loaded.loaded.head (Ok (format_in c.in_ok-format.format)) found.playable.inputs found.playable.outputs
    c.in_ok-format.ensures.format)

-- ---- what is ready

pub returns-clause-reaches : goal.returns-clause-reaches
returns-clause-reaches g c =
    let at = goal.at.returns-clause-reaches g c in
    (head_read g at.In_ok-loaded (program g at.In_ok-playable) (script_read g at.In_ok-script (program g at.In_ok-playable)
    c.in_ok-playable.ensures.found.playable.controls (program_read g at.In_ok-playable))).reaches

pub returns-clause-steady : goal.returns-clause-steady
returns-clause-steady g c =
    let at = goal.at.returns-clause-steady g c in
    (head_read g at.In_ok-loaded (program g at.In_ok-playable) (script_read g at.In_ok-script (program g at.In_ok-playable)
    c.in_ok-playable.ensures.found.playable.controls (program_read g at.In_ok-playable))).before

pub returns-clause-named : goal.returns-clause-named
returns-clause-named g c =
    let made = c.in_ok-prepared.ensures.made in
    record { sizes = made.sizes; output = made.output; named = named_is (run_view c.args.run.now).input made c.in_ok-loaded.ensures.named }

pub returns-clause-ready : goal.returns-clause-ready
returns-clause-ready g c =
    let at = goal.at.returns-clause-ready g c in
    let run : Run = run_view c.args.run.now in
    let found = c.in_ok-playable.ensures.found in
    let w = head_read g at.In_ok-loaded (program g at.In_ok-playable) (script_read g at.In_ok-script (program g at.In_ok-playable)
    c.in_ok-playable.ensures.found.playable.controls (program_read g at.In_ok-playable)) in
    let made = format_in c.in_ok-format.format in
    let is = format_is (coding_of run.manner.output) run.settings found.compiled.diagram _ _ c.in_ok-loaded.loaded.head (Ok made) found.playable.inputs
    found.playable.outputs c.in_ok-format.ensures.format in
    (found.compiled, c.in_ok-prepared.ensures.can found.compiled found.playable, files_are w made is refl refl refl c.in_ok-prepared.ensures.made)

pub returns-clause-whole : goal.returns-clause-whole
returns-clause-whole g c = λ t.
    let run : Run = run_view c.args.run.now in
    read_whole run c.load_playable.ensures.reads c.load_script.ensures.reads c.load_head.ensures.reads c.in_ok-playable.ensures.whole
    c.in_ok-script.ensures.whole t
