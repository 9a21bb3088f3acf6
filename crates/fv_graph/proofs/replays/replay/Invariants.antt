use Rattle.std.proofs.Common.{◌≡◌, drop}
use Rattle.fv_graph.specs.Graph.{net_of}
use Rattle.fv_graph.specs.Core.{replayed, opening}
use Rattle.fv_graph.proofs.replays.replay.Given as goal

abbrev pub invariant-loop-event : goal.invariant-loop-event
invariant-loop-event l = record {
  tasks : l.core.tasks ≡ l.tasks.tasks;
  workers : l.core.workers ≡ l.workers;
  rest : replayed (net_of l.tasks.tasks) (opening (net_of l.tasks.tasks) l.workers) l.events
      ≡ replayed (net_of l.tasks.tasks) l.core.now (drop l.event-index l.events);
}
