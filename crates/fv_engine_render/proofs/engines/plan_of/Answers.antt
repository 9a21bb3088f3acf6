use Rattle.fv_engine_render.proofs.Planned.{IsMade, planned}
use Rattle.fv_engine_render.proofs.engines.plan_of.Goals as goal

pub returns : goal.returns
returns c =
    let g = c.args.graph.now in let p = c.in_ok-plan.plan in
    let made : IsMade g c.args.channels c.args.controls p = record {
      of = record { stands = c.in_ok-plan.ensures.stands; reads = c.in_ok-plan.ensures.reads; names = c.in_ok-plan.ensures.names };
      some = c.requires.some;
      names = c.requires.names;
      short = c.requires.short;
    } in
    planned (c.outputs_need_loops.ensures g p) (c.histories_within.ensures g p) made
