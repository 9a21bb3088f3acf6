use Rattle.std.proofs.Common.{[], ◌++◌, length, get_or, set, sym, ap, ◌∙◌, refl, arith}
use Rattle.fv_graph.specs.Tasks.{Tasks}
use Rattle.fv_graph.specs.Graph.{feeds_of}
use Rattle.fv_graph.specs.Stored.{now_of, running_of}
use Rattle.fv_graph.specs.declared.event.Event.TheVariants.{Finish}
use Rattle.fv_graph.proofs.Keeps.{same_now, legal_in, stored_after}
use Rattle.fv_graph.proofs.Room.{finishes}
use Rattle.fv_graph.proofs.task_core.Core.finish.Goals as goal

pub index_mut-requires : goal.index_mut-requires
index_mut-requires c = (finishes c.self.invariant c.self.view_is c.requires.same c.args.worker c.args.task c.requires.legal).task

pub feeds-requires : goal.feeds-requires
feeds-requires c = (finishes c.self.invariant c.self.view_is c.requires.same c.args.worker c.args.task c.requires.legal).there

pub owe-requires-clause-room : goal.owe-requires-clause-room
owe-requires-clause-room c =
    let r = (finishes c.self.invariant c.self.view_is c.requires.same c.args.worker c.args.task c.requires.legal).room in
    let q = ap length c.feeds.ensures in omega arith

pub invariant_of-self : goal.invariant_of-self
invariant_of-self c =
    let i = c.self.inside in
    let found = finishes c.self.invariant c.self.view_is c.requires.same c.args.worker c.args.task c.requires.legal in
    let fed = c.feeds.ensures ∙ ap (λ (g : Tasks). feeds_of g c.args.task) (sym found.same) in
    stored_after i _ (Finish c.args.worker c.args.task) c.self.invariant
    (legal_in (running_of i) c.args.self.now (Finish c.args.worker c.args.task) c.self.view_is c.requires.legal)
    (record { tasks = refl; workers = refl; room_tasks = refl; room_edges = refl; counts = refl; done = refl; deques = refl; owes = c.owe.ensures.rooms })
    (same_now _ _ refl refl refl refl
    (c.owe.ensures.owed ∙ ap (λ l. set (now_of i).owes c.args.worker (get_or (now_of i).owes c.args.worker [] ++ l)) fed) refl)
