use Rattle.std.proofs.Common.{◌≡◌, ◌∙◌, List, ℕ, All, sym, ap, subst, refl}
use Rattle.std.specs.Prelude.{Option}
use Rattle.std.specs.List.{AllByRecursion}
use Rattle.fv_outside.specs.headline.Desk.{DeskState}
use Rattle.fv_outside.specs.headline.Journal.{Told}
use Rattle.fv_control.specs.Laws.{IsOfControls, NeverFall}
use Rattle.fv_control.specs.headline.Streams.{control_streams}
use Rattle.fv_control.specs.declared.script.Change.{Change}
use Rattle.fv_diagram.specs.Controls.{IsBounded}
use Rattle.fv_diagram.specs.declared.control.ControlInfo.{ControlInfo}
use Rattle.fv_engine_render.specs.Files.{HasPlayed, StopsAt}
use Rattle.fv_engine_render.specs.headline.Render.{RanTo, initial_of}
use Rattle.fv_engine_render.specs.Render.{RanWhole}
use Rattle.fv_engine_render.specs.Stops.{IsSetFor, IsSetToPlay}
use Rattle.fv_engine_render.specs.declared.blocks.Ran.{Ran}
use Rattle.fv_engine_render.specs.declared.tape.Played.{Played}
use Rattle.fv_file_tape.specs.Tapes.{files_of}
use Rattle.fv_file_tape.specs.declared.file_tape.OutputHead.{OutputHead}
use Rattle.fv_file_tape.specs.declared.file_tape.Stop.{Stop}
use Rattle.fv_file_tape.specs.declared.file_tape.Stop.TheVariants as stop
use Rattle.fv_top_program.specs.headline.Compiled.{Compiled}
use Rattle.fv_top.specs.declared.prepare.Prepared.{Prepared}
use Rattle.fv_top.specs.inner.Prepared.{CanRun, refusal_of_stop}
use Rattle.fv_top.proofs.Playing.{run_whole, pad_stops, files_stop}
use Rattle.fv_top.proofs.play.play.Goals as goal

-- ---- what is asked

-- all is set for a program that is ready
set_to_play : (m : Compiled) (p : Prepared) (played : Played) → CanRun m p → played.inputs ≡ p.inputs → played.outputs ≡ p.outputs
    → played.controls.now ≡ p.controls.items → IsSetToPlay m.diagram played p.sizes p.ready
set_to_play m p played can inputs outputs controls = record {
  well = can.plays.well;
  inputs_are = inputs ∙ can.inputs_are;
  outputs_are = outputs ∙ can.outputs_are;
  set = subst (λ (ks : List ControlInfo). IsSetFor m.diagram ks p.sizes p.ready) (sym (controls ∙ can.controls_are)) can.set;
}

pub play_files-requires-clause-bounded : goal.play_files-requires-clause-bounded
play_files-requires-clause-bounded g c = λ κs lives.
    let can = c.requires.1 in
    subst (All IsBounded) (sym (c.deref.ensures.value ∙ can.controls_are)) can.plays.bounded

pub play_files-requires-clause-order : goal.play_files-requires-clause-order
play_files-requires-clause-order g c = λ κs lives. subst (NeverFall 0) (sym c.changes.ensures) c.requires.1.order

pub play_files-requires-clause-lawful : goal.play_files-requires-clause-lawful
play_files-requires-clause-lawful g c = λ κs lives.
    let can = c.requires.1 in
    subst (λ (ks : List ControlInfo). AllByRecursion (IsOfControls ks) c.changes.result.now) (sym (c.deref.ensures.value ∙ can.controls_are))
    (subst (λ (xs : List Change). AllByRecursion (IsOfControls c.requires.0.controls) xs) (sym c.changes.ensures) can.lawful)

pub play_files-requires-clause-ready : goal.play_files-requires-clause-ready
play_files-requires-clause-ready g c = λ κs lives.
    (c.requires.0.diagram, set_to_play c.requires.0 c.args.prepared _ c.requires.1 refl refl c.deref.ensures.value)

pub play_files-requires-clause-sizes : goal.play_files-requires-clause-sizes
play_files-requires-clause-sizes g c = λ κs lives. c.requires.1.can

pub play_files-requires-clause-valid : goal.play_files-requires-clause-valid
play_files-requires-clause-valid g c = λ κs lives. c.requires.1.tape

pub play_files-requires-clause-fresh : goal.play_files-requires-clause-fresh
play_files-requires-clause-fresh g c = λ κs lives. c.requires.1.fresh

pub play_files-requires-clause-ears : goal.play_files-requires-clause-ears
play_files-requires-clause-ears g c = λ κs lives. c.requires.1.ears ∙ sym c.requires.1.inputs_are

pub play_files-requires-clause-mouth : goal.play_files-requires-clause-mouth
play_files-requires-clause-mouth g c = λ κs lives. ap (λ (h : OutputHead). h.channels) c.requires.1.head ∙ sym c.requires.1.outputs_are

pub play_files-requires-clause-most : goal.play_files-requires-clause-most
play_files-requires-clause-most g c = λ κs lives. c.requires.1.most

pub play_files-requires-clause-stated : goal.play_files-requires-clause-stated
play_files-requires-clause-stated g c = λ κs lives. c.requires.1.stated

-- ---- what follows

-- what is said of controls under these changes is said of what is ready
of_ready : (m : Compiled) (p : Prepared) (P : List ControlInfo → List Change → Type 0) (ks : List ControlInfo) (cs : List Change)
    → ks ≡ m.controls → cs ≡ p.script → P ks cs → P m.controls p.script
of_ready m p P ks cs controls changes h =
    subst (λ (xs : List ControlInfo). P xs p.script) controls (subst (λ (xs : List Change). P ks xs) changes h)

-- why it stops
abbrev Stops : Compiled → (p : Prepared) (a b : DeskState) (before after : Option Told) (e : Stop) → List ControlInfo → List Change → Type 0
Stops m p a b before after e ks cs =
    (g : ℕ) × (counts : Ran) × RanTo m.diagram ks cs p.sizes g counts before after
    × StopsAt m.diagram (control_streams cs (initial_of ks)) cs p.sizes (files_of p.tape) g a b e

pub returns-in-Err-clause-stops : goal.returns-in-Err-clause-stops
returns-in-Err-clause-stops g c = λ m can.
    let p = c.args.prepared in
    let a = g.D.Desk.state c.args.desk.now in
    let b = g.D.Desk.state c.play_files.new.desk in
    let S = Stops m p a b (g.G.Gate.told c.args.gate.now) (g.G.Gate.told c.play_files.new.gate) c.in-Err.stop in
    let set = set_to_play m p _ can refl refl c.deref.ensures.value in
    let s : S m.controls p.script =
    of_ready m p S c.deref.result.now c.changes.result.now (c.deref.ensures.value ∙ can.controls_are) c.changes.ensures
    (c.in-Err.ensures.stops m.diagram set) in
    record {
      stop = c.in-Err.stop;
      is = c.stop_refusal.ensures ∙ ap (λ k. refusal_of_stop k c.in-Err.stop) c.coding_heard-coding.ensures;
      frame = s.0;
      counted = s.1;
      ran = s.2;
      ends = files_stop m p can s.0 c.in-Err.stop s.3;
    }

-- all frames were played
abbrev Plays : Compiled → (p : Prepared) (a b : DeskState) → List ControlInfo → List Change → Type 0
Plays m p a b ks cs = HasPlayed m.diagram (control_streams cs (initial_of ks)) (files_of p.tape) a b

pub returns-in-Ok-end_file-clause-played : goal.returns-in-Ok-end_file-clause-played
returns-in-Ok-end_file-clause-played g c = λ m can.
    let p = c.args.prepared in
    let a = g.D.Desk.state c.args.desk.now in
    let b = g.D.Desk.state c.play_files.new.desk in
    let set = set_to_play m p _ can refl refl c.deref.ensures.value in
    let played : Plays m p a b m.controls p.script =
    of_ready m p (Plays m p a b) c.deref.result.now c.changes.result.now (c.deref.ensures.value ∙ can.controls_are) c.changes.ensures
    (c.in-Ok.ensures.played m.diagram set) in
    run_whole m p can played c.in-Ok-end_file.ensures.ok c.in-Ok-end_file.ensures.steady

abbrev Runs : Compiled → (p : Prepared) (counted : Ran) (before after : Option Told) → List ControlInfo → List Change → Type 0
Runs m p counted before after ks cs = RanWhole m.diagram ks cs p.sizes counted before after

pub returns-in-Ok-end_file-clause-ran : goal.returns-in-Ok-end_file-clause-ran
returns-in-Ok-end_file-clause-ran g c = λ m can.
    let p = c.args.prepared in
    let R = Runs m p c.in-Ok.ran (g.G.Gate.told c.args.gate.now) (g.G.Gate.told c.play_files.new.gate) in
    let set = set_to_play m p _ can refl refl c.deref.ensures.value in
    of_ready m p R c.deref.result.now c.changes.result.now (c.deref.ensures.value ∙ can.controls_are) c.changes.ensures
    (c.in-Ok.ensures.ran m.diagram set)

pub returns-clause-stops : goal.returns-clause-stops
returns-clause-stops g c = λ m can.
    let p = c.args.prepared in
    let a = g.D.Desk.state c.args.desk.now in
    let b = g.D.Desk.state c.play_files.new.desk in
    let R = Runs m p c.in-Ok.ran (g.G.Gate.told c.args.gate.now) (g.G.Gate.told c.play_files.new.gate) in
    let set = set_to_play m p _ can refl refl c.deref.ensures.value in
    let own = c.deref.ensures.value ∙ can.controls_are in
    let played : Plays m p a b m.controls p.script =
    of_ready m p (Plays m p a b) c.deref.result.now c.changes.result.now own c.changes.ensures (c.in-Ok.ensures.played m.diagram set) in
    let ran : R m.controls p.script =
    of_ready m p R c.deref.result.now c.changes.result.now own c.changes.ensures (c.in-Ok.ensures.ran m.diagram set) in
    let failed = c.in-Err-end_file.ensures in
    record {
      stop = stop.Write;
      is = refl;
      frame = p.sizes.frames;
      counted = c.in-Ok.ran;
      ran = ran;
      ends = pad_stops m p can played failed.err failed.failed (λ t sure room. let answered = failed.answers t sure room in absurd cc);
    }
