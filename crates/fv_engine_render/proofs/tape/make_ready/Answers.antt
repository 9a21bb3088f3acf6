use Rattle.std.proofs.Common.{sym, subst, IfOk}
use Rattle.fv_interval.specs.headline.Controls.{spans_of}
use Rattle.fv_engine_render.specs.headline.Plans.{IsGraphOf}
use Rattle.fv_engine_render.specs.Render.{CanBePlayed, CanRender}
use Rattle.fv_engine_render.specs.Sources.{SourceView, diagram_in}
use Rattle.fv_engine_render.specs.Stops.{IsSetFor}
use Rattle.std.proofs.lemmas.Result.{IfOk-weaker}
use Rattle.fv_engine_render.proofs.tape.make_ready.Goals as goal
use Rattle.fv_engine_render.proofs.tape.make_ready.Goals.{In_ok-graph}

-- what the source shows
abbrev seen : In_ok-graph → SourceView
seen c = record {
  diagrams = c.source.inside.diagrams.now;
  root = c.source.inside.root;
  controls = c.source.inside.controls.now;
  delays = c.source.inside.delays.now;
}

-- the graph is one of the diagram, which can be played
can : (c : In_ok-graph) → CanBePlayed (diagram_in (seen c)) c.in_ok-graph.graph c.arity-inputs.result.inputs (seen c).controls
can c =
    let is : CanRender (diagram_in (seen c)) (seen c).controls =
    subst (λ (x : SourceView). CanRender (diagram_in x) x.controls) (sym c.source.view_is) c.requires.source in record {
      of = subst (λ (x : SourceView). IsGraphOf (diagram_in x) (spans_of x.controls) c.in_ok-graph.graph) (sym c.source.view_is) c.in_ok-graph.ensures;
      channels_are = c.arity-inputs.ensures.arity.0;
      some = is.some;
      few = is.few;
      reads = is.reads;
    }

pub make_ready_graph-requires-clause-of : goal.make_ready_graph-requires-clause-of
make_ready_graph-requires-clause-of c =
    let made = (goal.at.make_ready_graph-requires-clause-of c).In_ok-graph in (diagram_in (seen made), can made)

pub returns : goal.returns
returns c =
    let made = (goal.at.returns c).In_ok-graph in
    subst (λ (x : SourceView). IfOk c.make_ready_graph.result (IsSetFor (diagram_in x) x.controls c.args.sizes.now)) c.source.view_is
    (IfOk-weaker c.make_ready_graph.result _ _ (λ r set. set (diagram_in (seen made)) (can made)) c.make_ready_graph.ensures)
