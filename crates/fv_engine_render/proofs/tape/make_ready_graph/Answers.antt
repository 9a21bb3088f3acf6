use Rattle.std.proofs.Common.{◌*◌, length, sym, ap, subst, ◌∙◌, arith}
use Rattle.fv_interval.specs.headline.Controls.{spans_of}
use Rattle.fv_engine_render.specs.Plans.{IsPlanned}
use Rattle.fv_engine_render.specs.inner.Plans.{NamesOnly}
use Rattle.fv_engine_render.proofs.Planned.{names_only}
use Rattle.fv_engine_render.proofs.tape.make_ready_graph.Goals as goal

pub plan_of-requires-clause-some : goal.plan_of-requires-clause-some
plan_of-requires-clause-some c = let can = c.requires.of.1 in let some = can.some in let width = can.of.width in omega (arith, some, width)

pub plan_of-requires-clause-names : goal.plan_of-requires-clause-names
plan_of-requires-clause-names c =
    let d = c.requires.of.0 in
    let can = c.requires.of.1 in
    let cs = c.args.controls.now in
    subst (λ n. NamesOnly c.args.graph.now n (length cs)) (sym can.channels_are)
    (names_only d (spans_of cs) c.args.graph.now (length cs) can.of can.reads)

pub plan_of-requires-clause-short : goal.plan_of-requires-clause-short
plan_of-requires-clause-short c = c.requires.of.1.of.short

pub engine-requires-clause-few : goal.engine-requires-clause-few
engine-requires-clause-few c = let can = c.requires.of.1 in let few = can.few in let channels = can.channels_are in omega (arith, few, channels)

pub returns : goal.returns
returns c = λ d can.
    let cs = c.args.controls.now in
    let e = c.in_ok-engine.ensures in
    let block = c.args.sizes.now.block in record {
      graph = c.args.graph.now;
      of = can.of;
      plan = c.in_ok-plan.plan;
      planned = subst (λ n. IsPlanned c.args.graph.now n (length cs) c.in_ok-plan.plan) can.channels_are c.in_ok-plan.ensures;
      plan_is = e.plan;
      loops = c.loops-loops.ensures.loops;
      channels = e.sizes.0 ∙ can.channels_are;
      fresh = e.stands;
      block = e.sizes.1;
      vector = e.sizes.2;
      workers = e.sizes.3;
      initial = c.in_ok-values.ensures;
      hears = c.in_ok-heard.ensures ∙ ap (λ w. block * w) can.channels_are;
      says = c.in_ok-said.ensures ∙ ap (λ w. block * w) (ap length c.outputs.ensures.list ∙ can.of.width);
    }
