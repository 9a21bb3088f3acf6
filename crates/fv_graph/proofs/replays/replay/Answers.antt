use Rattle.std.proofs.Common.{ap, ◌∙◌, subst}
use Rattle.fv_graph.specs.Tasks.{Tasks}
use Rattle.fv_graph.specs.Graph.{IsGraph, net_of}
use Rattle.fv_graph.proofs.lemmas.Graphs.{is_net}
use Rattle.fv_graph.specs.Running.{Running}
use Rattle.fv_graph.proofs.Law.{core_law}
use Rattle.fv_graph.proofs.Replaying.{replay_end}
use Rattle.fv_graph.proofs.replays.replay.Goals as goal

pub returns-clause-law : goal.returns-clause-law
returns-clause-law c =
    let g = c.args.tasks.now.tasks in
    let graph = subst (λ (x : Tasks). IsGraph x) (ap (λ (r : Running). r.tasks) c.in_ok-core.ensures.core) c.in_ok-core.ensures.graph in
    core_law (net_of g) (is_net g graph) c.args.workers c.args.events.now c.loop-event.core.now c.requires.some_worker
    (c.loop-event.invariant.rest ∙ replay_end (net_of g) c.loop-event.core.now c.args.events.now c.loop-event.event-index c.loop-event-test.false)
