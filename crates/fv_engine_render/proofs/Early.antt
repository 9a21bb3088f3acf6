-- How a run of a diagram over a tape ends, from how its engine's run does.
use Rattle.std.proofs.Common.{◌≡◌, ℕ, ◌*◌, List, length, ℤ, Option, ap, subst, ◌∙◌}
use Rattle.fv_outside.specs.headline.Journal.{Told}
use Rattle.fv_outside.specs.Acts.{Act}
use Rattle.fv_diagram.specs.headline.Diagram.{Diagram, inputs}
use Rattle.fv_diagram.specs.Diagram.{IsWellFormed}
use Rattle.fv_diagram.specs.Laws.{AnswersEach, AnswersWide}
use Rattle.fv_diagram.specs.headline.Samples.{answer_on}
use Rattle.fv_diagram.specs.declared.control.ControlInfo.{ControlInfo}
use Rattle.fv_control.specs.declared.script.Change.{Change}
use Rattle.fv_control.specs.headline.Streams.{control_streams}
use Rattle.fv_engine_render.specs.headline.Blocks.{StillTells}
use Rattle.fv_engine_render.specs.inner.Plans.{AreNumbers}
use Rattle.fv_engine_render.specs.headline.Render.{RanTo, initial_of}
use Rattle.fv_engine_render.specs.headline.Runs.{HasRun}
use Rattle.fv_engine_render.specs.inner.Runs.{PlaysAll}
use Rattle.fv_engine_render.specs.Stops.{HasEnded, IsAct, IsSetFor}
use Rattle.fv_engine_render.specs.inner.Stopping.{HasStopped}
use Rattle.fv_engine_render.specs.declared.blocks.RunSizes.{RunSizes}
use Rattle.fv_engine_render.specs.declared.blocks.Ran.{Ran}
use Rattle.fv_engine_render.specs.declared.tape.Ready.{Ready}
use Rattle.fv_engine_render.proofs.Taken.{StayWithin}
use Rattle.fv_engine_render.proofs.Whole.{HasPlayed, IsReady, graph_played, ran_graph, samples}

-- what is ready for a diagram, whose controls stay within their bounds
pub record IsSet (d : Diagram) (cs : List ControlInfo) (changes : List Change) (s : RunSizes) (r : Ready) : Type 0 where
  pub well : IsWellFormed d
  pub stay : StayWithin cs changes
  pub set : IsSetFor d cs s r
  pub each : AnswersEach d
  pub wide : AnswersWide d

module _ {d : Diagram} {cs : List ControlInfo} {changes : List Change} {s : RunSizes} {r : Ready} (h : IsSet d cs changes s r) where
  ready : IsReady h.set.graph (inputs d) h.set.plan r.engine
  ready = record { planned = h.set.planned.planned; plan = h.set.plan_is; channels_are = h.set.channels; fresh = h.set.fresh }

  -- as many numbers as the graph's outputs, and as the diagram's
  pub outputs_are : length r.engine.plan.outputs ≡ length h.set.graph.outputs
  outputs_are = ap (λ p. length p.outputs) h.set.plan_is ∙ h.set.planned.planned.stands.outputs.0

  -- the blocks that ran are the diagram's
  pub ran_to : (upto : ℕ) (ran : Ran) (old new : Option Told) → HasRun r.engine.plan s changes upto ran old new
      → StillTells ran.blocks ran.loop_runs (ran.blocks * length r.engine.plan.reads) old new → RanTo d cs changes s upto ran old new
  ran_to upto ran old new run room = record {
    graph = h.set.graph;
    of = h.set.of;
    blocks = ran_graph ready changes s upto ran old new run room;
  }

  -- and what the engine plays is what the diagram answers
  pub answers : (frames : ℕ) (heard all : List ℤ) → AreNumbers heard → length all ≡ frames * length r.engine.plan.outputs
      → PlaysAll r.engine (control_streams changes (initial_of cs)) frames heard all
      → all ≡ answer_on d (control_streams changes (initial_of cs)) frames heard
  answers frames heard all fit count plays =
      let c = control_streams changes (initial_of cs) in
      let run : HasPlayed d cs changes h.set.graph = record {
        frames = frames;
        input = heard;
        output = all;
        well = h.well;
        stay = h.stay;
        fit = fit;
        of = h.set.of;
        count = count ∙ ap (λ w. frames * w) outputs_are;
        plays = graph_played ready c frames heard all plays;
      } in
      samples h.each h.wide run

  pub ended : (Stopped : (heard said : List ℤ) → Act → Type 0) (values : List ℤ) (old new : Option Told) → values ≡ initial_of cs
      → HasStopped r.engine s changes values old new Stopped → HasEnded d cs changes s old new Stopped
  ended Stopped values old new initial stop =
      let plays = subst (λ (vs : List ℤ). PlaysAll r.engine (control_streams changes vs) stop.frame stop.heard stop.all) initial stop.plays in
      let answer = answers stop.frame stop.heard stop.all stop.fit stop.count plays in
      record {
        frame = stop.frame;
        ran = stop.ran;
        blocks = ran_to stop.frame stop.ran old new stop.run stop.room;
        heard = stop.heard;
        long = stop.long ∙ ap (λ (w : ℕ). stop.frame * w) h.set.channels;
        said = stop.said;
        act = stop.act;
        is = subst (λ (xs : List ℤ). IsAct s.block s.frames changes stop.frame stop.said xs stop.act) answer stop.is;
        stopped = stop.stopped;
      }
