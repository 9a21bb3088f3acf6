use Rattle.std.proofs.Common.{refl}
use Rattle.fv_graph.specs.Stored.{running_of}
use Rattle.fv_graph.specs.declared.event.Event.TheVariants.{Steal}
use Rattle.fv_graph.proofs.Keeps.{same_now, legal_in, stored_after}
use Rattle.fv_graph.proofs.task_core.Core.steal.Goals as goal

pub invariant_of-self : goal.invariant_of-self
invariant_of-self c = let i = c.self.inside in
    stored_after i _ (Steal c.args.thief c.args.victim c.args.task) c.self.invariant
    (legal_in (running_of i) c.args.self.now (Steal c.args.thief c.args.victim c.args.task) c.self.view_is c.requires)
    (record {
      tasks = refl;
      workers = refl;
      room_tasks = refl;
      room_edges = refl;
      counts = refl;
      done = refl;
      deques = c.take_front.ensures.rooms;
      owes = refl;
    })
    (same_now _ _ refl refl c.take_front.ensures.deque refl refl refl)
