use Rattle.std.proofs.Common.{◌*◌, ◌∙◌, ap, sym, subst}
use Rattle.std.proofs.lemmas.Result.{on_ok_weaker, IfErr-weaker}
use Rattle.fv_diagram.specs.headline.Diagram.{Diagram, inputs}
use Rattle.fv_diagram.specs.headline.Samples.{answer_on}
use Rattle.fv_control.specs.headline.Streams.{control_streams}
use Rattle.fv_engine_render.specs.headline.Render.{initial_of}
use Rattle.fv_engine_render.specs.Stops.{IsSetToPlay}
use Rattle.fv_file_tape.specs.Tapes.{Streamed, files_of}
use Rattle.fv_engine_render.proofs.Ending.{Plays, played, stopped}
use Rattle.fv_engine_render.proofs.files.play_files.Given.{Over}
use Rattle.fv_engine_render.proofs.files.play_files.Goals as goal
use Rattle.fv_engine_render.proofs.files.play_files.Goals.{After-render_tape}

-- the input fits the diagram
plays : (g : Over) (c : After-render_tape g) (d : Diagram) → IsSetToPlay d c.args.played.now c.args.played.now.sizes c.args.ready
    → Plays d (files_of c.args.tape.now)
plays g c d h = record {
  follow = c.samples_follow.ensures;
  prefixes = c.answers_prefixes.ensures d;
  ears = c.requires.ears ∙ h.inputs_are;
  input = c.requires.valid.input;
  stated = c.requires.valid.stated;
}

pub returns-clause-played : goal.returns-clause-played
returns-clause-played g c = λ d h.
    let cs = control_streams c.args.played.now.changes.now (initial_of c.args.played.now.controls.now) in
    let t = files_of c.args.tape.now in
    let a = g.D.Desk.state c.args.desk.now in
    let b = g.D.Desk.state c.render_tape.new.world in
    on_ok_weaker c.render_tape.result (λ k.
    let went = subst (λ n. Streamed t c.render_tape.new.tape.done a b k.0 (answer_on d cs n k.0)) (sym c.requires.stated) k.2.1 in
    played (plays g c d h) cs a b c.render_tape.new.tape.done k.0 went (k.1 ∙ ap (λ n. n * inputs d) (sym c.requires.stated)))
    (c.render_tape.ensures.samples d h)

pub returns-clause-ran : goal.returns-clause-ran
returns-clause-ran g c = c.render_tape.ensures.ran

pub returns-clause-stops : goal.returns-clause-stops
returns-clause-stops g c = λ d h.
    let cs = control_streams c.args.played.now.changes.now (initial_of c.args.played.now.controls.now) in
    let a = g.D.Desk.state c.args.desk.now in
    let b = g.D.Desk.state c.render_tape.new.world in
    IfErr-weaker c.render_tape.result _ _ (λ e k. (
      k.frame,
      k.ran,
      k.blocks,
      stopped (plays g c d h) cs a c.args.played.now.changes.now c.args.played.now.sizes (sym c.requires.stated) b k.frame k.heard k.said k.act e
          (record { lengths = k.blocks.blocks.run.lengths; cut = k.blocks.blocks.run.cut; long = k.long }) k.is k.stopped,
    )) (c.render_tape.ensures.stops d h)
