use Rattle.std.proofs.Common.{◌∙◌, List, ap, subst, refl, sym, arith}
use Rattle.std.specs.List.{AllByRecursion}
use Rattle.fv_control.specs.Laws.{IsOfControls}
use Rattle.fv_diagram.specs.declared.control.ControlInfo.{ControlInfo}
use Rattle.fv_engine_render.specs.Render.{CanBePlayed}
use Rattle.fv_engine_render.specs.Stops.{IsSetFor}
use Rattle.fv_engine_render.specs.declared.blocks.RunSizes.{RunSizes}
use Rattle.fv_file_tape.specs.Tapes.{channels_of}
use Rattle.fv_pcm.specs.headline.Sizes.{data_size}
use Rattle.fv_top_words.specs.Views.{settings_in}
use Rattle.fv_top.specs.headline.Played.{sizes_of}
use Rattle.fv_top.specs.inner.Prepared.{output_head}
use Rattle.fv_top.proofs.Playing.{channels_are}
use Rattle.fv_top.proofs.Ran.{can_be_played, can_have}
use Rattle.fv_top.proofs.prepare.take_memory.Goals as goal

pub make_ready_graph-requires-clause-of : goal.make_ready_graph-requires-clause-of
make_ready_graph-requires-clause-of c =
    let p = c.requires.playable in (
      p.0.diagram,
      subst (CanBePlayed p.0.diagram c.args.playable.graph c.args.playable.inputs) (sym (c.deref.ensures.value))
          (can_be_played p.0 c.args.playable p.1),
    )

pub returns-clause-can : goal.returns-clause-can
returns-clause-can c = λ m h.
    let sizes : RunSizes = sizes_of (settings_in c.args.settings.now) c.args.format.frames in
    let tape = c.in_ok-tape.ensures.is in
    let cs = c.args.playable.controls.items in
    record {
      plays = h.plays;
      inputs_are = h.inputs;
      outputs_are = h.outputs;
      controls_are = h.controls;
      order = c.requires.order;
      lawful = subst (λ (ks : List ControlInfo). AllByRecursion (IsOfControls ks) c.args.script) h.controls c.requires.lawful;
      can = can_have (settings_in c.args.settings.now) c.args.format.frames c.requires.sizes;
      set = subst (λ (ks : List ControlInfo). IsSetFor m.diagram ks sizes c.in_ok-ready.ready) (c.deref.ensures.value ∙ h.controls)
          (c.in_ok-ready.ensures m.diagram (subst (CanBePlayed m.diagram c.args.playable.graph c.args.playable.inputs) (sym (c.deref.ensures.value))
          (can_be_played m c.args.playable h)));
      tape = c.in_ok-tape.ensures.tape;
      fresh = tape.done;
      ears = ap channels_of tape.input ∙ channels_are c.args.loaded.head ∙ c.requires.channels ∙ h.inputs;
      most = let most = tape.most in omega (arith, most);
      stated = tape.stated;
      frames = refl;
      size = c.requires.size.0 ∙ ap (λ n. data_size n c.args.format.bits c.args.format.frames) h.outputs;
      head = tape.head ∙ ap (λ n. output_head n c.args.format) h.outputs;
    }
