use Rattle.std.proofs.Common.{subst}
use Rattle.fv_interval.specs.headline.Controls.{spans_of}
use Rattle.fv_engine_render.specs.headline.Plans.{IsGraphOf}
use Rattle.fv_engine_render.specs.Sources.{SourceView, diagram_in}
use Rattle.fv_engine_render.proofs.Simpler.{short_graph, simpler_of}
use Rattle.fv_engine_render.proofs.source.compile.Goals as goal

pub simplify-requires : goal.simplify-requires
simplify-requires c =
    let spans = spans_of c.source.inside.controls.now in
    record { short = short_graph c.in_ok-whole.whole (c.in_ok-whole.ensures.short spans c.spans_fit.ensures c.source.invariant.accepted) }

pub returns : goal.returns
returns c =
    let s : SourceView = record {
      diagrams = c.source.inside.diagrams.now;
      root = c.source.inside.root;
      controls = c.source.inside.controls.now;
      delays = c.source.inside.delays.now;
    } in
    let spans = spans_of s.controls in
    let accepted = c.source.invariant.accepted in
    let g = c.in_ok-whole.whole in
    let of : IsGraphOf (diagram_in s) spans g = record {
      finished = c.outputs-whole.ensures.graph;
      gives = c.in_ok-whole.ensures.values spans accepted;
      width = c.in_ok-whole.ensures.width;
      names = c.in_ok-whole.ensures.names;
      short = short_graph g (c.in_ok-whole.ensures.short spans c.spans_fit.ensures accepted);
    } in
    subst (λ (x : SourceView). IsGraphOf (diagram_in x) (spans_of x.controls) c.in_ok-graph.graph) c.source.view_is
    (simpler_of (diagram_in s) spans g c.in_ok-graph.graph of c.in_ok-graph.ensures.simpler c.outputs-outputs.ensures.graph)
