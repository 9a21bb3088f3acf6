use Rattle.std.proofs.Common.{◌≡◌, ◌*◌, ◌<◌, length, ℕ, List, ℤ, sym, ap, subst, ◌∙◌}
use Rattle.std.proofs.lemmas.List.{length-map}
use Rattle.std.proofs.lemmas.Result.{on_ok_weaker, IfErr-weaker}
use Rattle.fv_control.specs.headline.Streams.{control_streams}
use Rattle.fv_diagram.specs.headline.Diagram.{Diagram}
use Rattle.fv_diagram.specs.declared.control.ControlInfo.{ControlInfo}
use Rattle.fv_split_plan.specs.Code.{NamesHeld}
use Rattle.fv_split_plan.specs.headline.View.{PlanView}
use Rattle.fv_engine_render.specs.inner.Runs.{PlaysAll}
use Rattle.fv_engine_render.specs.Stops.{IsSetToPlay}
use Rattle.fv_engine_render.proofs.Whole.{from_both}
use Rattle.fv_engine_render.proofs.Early.{IsSet, answers, ended, outputs_are, ran_to}
use Rattle.fv_engine_render.proofs.tape.render_tape.Given.{Over}
use Rattle.fv_engine_render.proofs.tape.render_tape.Goals as goal
use Rattle.fv_engine_render.proofs.tape.render_tape.Goals.{After-play_tape-ran}

pub play_tape-ran-requires-clause-plan : goal.play_tape-ran-requires-clause-plan
play_tape-ran-requires-clause-plan g c κs within =
    let h = c.requires.ready.1 in
    let s = h.set in record {
      loops = s.loops ∙ sym (ap (λ (p : PlanView). p.loops) s.plan_is);
      channels = h.inputs_are ∙ sym s.channels;
      outputs = h.outputs_are ∙ sym s.of.width ∙ sym s.planned.planned.stands.outputs.0 ∙ sym (ap (λ (p : PlanView). length p.outputs) s.plan_is);
    }

pub play_tape-ran-requires-clause-controls : goal.play_tape-ran-requires-clause-controls
play_tape-ran-requires-clause-controls g c κs within =
    let s = c.requires.ready.1.set in
    let cs = c.args.played.now.controls.now in
    let long : length c.args.ready.values.items ≡ length cs = ap length s.initial ∙ length-map cs (λ (i : ControlInfo). i.init) in
    λ k h. subst (λ m. k < m) (sym long) (s.planned.controls_there k (subst (λ (q : PlanView). NamesHeld q.held k) s.plan_is h))

-- what is set for a diagram
abbrev set_for : (g : Over) (c : After-play_tape-ran g) (d : Diagram) → IsSetToPlay d c.args.played.now c.args.played.now.sizes c.args.ready
    → IsSet d c.args.played.now.controls.now c.args.played.now.changes.now c.args.played.now.sizes c.args.ready
set_for g c d h = record {
  well = h.well;
  stay = record { spans = c.spans_fit.ensures; bounded = c.requires.bounded; lawful = c.requires.lawful };
  set = h.set;
  each = c.answers_each.ensures d;
  wide = c.answers_wide.ensures d;
}

pub returns-clause-samples : goal.returns-clause-samples
returns-clause-samples g c = λ d h.
    let cs = c.args.played.now.controls.now in
    let changes = c.args.played.now.changes.now in
    let n = c.args.played.now.sizes.frames in
    let set = set_for g (goal.at.returns-clause-samples g c).After-play_tape-ran d h in
    let width = h.outputs_are ∙ sym h.set.of.width ∙ sym (outputs_are set) in
    on_ok_weaker c.play_tape-ran.result (λ k. (
      k.0,
      k.2 ∙ ap (λ (w : ℕ). n * w) h.inputs_are,
      subst (λ (xs : List ℤ). g.T.Tape.Went c.args.tape.now c.play_tape-ran.new.tape c.args.world.now c.play_tape-ran.new.world k.0 xs)
          (answers set n k.0 k.1 k.3 (k.4 ∙ ap (λ (w : ℕ). n * w) width)
          (subst (λ (vs : List ℤ). PlaysAll c.args.ready.engine (control_streams changes vs) n k.0 k.1) h.set.initial k.5)) k.6,
    )) c.play_tape-ran.ensures.samples

pub returns-clause-ran : goal.returns-clause-ran
returns-clause-ran g c = λ d h.
    let told = g.G.Gate.told in
    let set = set_for g (goal.at.returns-clause-ran g c).After-play_tape-ran d h in
    from_both c.play_tape-ran.result _ _ _
    (λ r run room. ran_to set c.args.played.now.sizes.frames r (told c.args.gate.now) (told c.play_tape-ran.new.gate) run room)
    c.play_tape-ran.ensures.ran c.play_tape-ran.ensures.room

pub returns-clause-stops : goal.returns-clause-stops
returns-clause-stops g c = λ d h.
    let told = g.G.Gate.told in
    let set = set_for g (goal.at.returns-clause-stops g c).After-play_tape-ran d h in
    IfErr-weaker c.play_tape-ran.result _ _
    (λ e k. ended set _ c.args.ready.values.items (told c.args.gate.now) (told c.play_tape-ran.new.gate) h.set.initial k) c.play_tape-ran.ensures.stops
