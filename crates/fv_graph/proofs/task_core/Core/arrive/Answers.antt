use Rattle.std.proofs.Common.{ap, refl, arith}
use Rattle.std.proofs.lemmas.List.{get_or_read}
use Rattle.fv_graph.specs.Core.{count_of}
use Rattle.fv_graph.specs.Stored.{now_of, running_of}
use Rattle.fv_graph.specs.declared.event.Event.TheVariants.{Arrive}
use Rattle.fv_graph.proofs.Keeps.{legal_in, stored_after, running_after, arrived}
use Rattle.fv_graph.proofs.Room.{arrives}
use Rattle.fv_graph.proofs.task_core.Core.arrive.Goals as goal

pub reader-reader-requires : goal.reader-reader-requires
reader-reader-requires c = (arrives c.self.invariant c.self.view_is c.requires.same c.args.worker c.args.edge c.requires.legal).edge

pub index-requires : goal.index-requires
index-requires c =
    let r = (arrives c.self.invariant c.self.view_is c.requires.same c.args.worker c.args.edge c.requires.legal).reader in
    let q = c.reader-reader.ensures in omega arith

pub overflow_sub-count : goal.overflow_sub-count
overflow_sub-count c =
    let a = arrives c.self.invariant c.self.view_is c.requires.same c.args.worker c.args.edge c.requires.legal in
    let i = c.self.inside in
    let q = c.reader-reader.ensures in let o = i.counts.ok.0 in let r = a.reader in
    let read = get_or_read i.counts.items c.reader-reader.result c.index.result.now (omega arith) c.index.ensures 1 in
    let same = ap (count_of (now_of i)) q in let high = a.count in omega arith

pub index_mut-requires : goal.index_mut-requires
index_mut-requires c =
    let r = (arrives c.self.invariant c.self.view_is c.requires.same c.args.worker c.args.edge c.requires.legal).reader in
    let q = c.reader-reader.ensures in omega arith

pub put_ready-requires-clause-room : goal.put_ready-requires-clause-room
put_ready-requires-clause-room c = (arrives c.self.invariant c.self.view_is c.requires.same c.args.worker c.args.edge c.requires.legal).room

pub invariant_of-self : goal.invariant_of-self
invariant_of-self c =
    let a = arrives c.self.invariant c.self.view_is c.requires.same c.args.worker c.args.edge c.requires.legal in
    let i = c.self.inside in
    let q = c.reader-reader.ensures in let o = i.counts.ok.0 in let r = a.reader in
    let read = get_or_read i.counts.items c.reader-reader.result c.index.result.now (omega arith) c.index.ensures 1 in
    stored_after i _ (Arrive c.args.worker c.args.edge) c.self.invariant
    (legal_in (running_of i) c.args.self.now (Arrive c.args.worker c.args.edge) c.self.view_is c.requires.legal)
    (record {
      tasks = refl;
      workers = refl;
      room_tasks = refl;
      room_edges = refl;
      counts = refl;
      done = refl;
      deques = c.put_ready.ensures.rooms;
      owes = c.forget.ensures.rooms;
    })
    (arrived i c.args.tasks.now.tasks c.args.worker c.args.edge c.reader-reader.result c.index.result.now _ _ a.same q read
    c.put_ready.ensures.deque c.forget.ensures.owed)

pub returns : goal.returns
returns c =
    let a = arrives c.self.invariant c.self.view_is c.requires.same c.args.worker c.args.edge c.requires.legal in
    let i = c.self.inside in
    let q = c.reader-reader.ensures in let o = i.counts.ok.0 in let r = a.reader in
    let read = get_or_read i.counts.items c.reader-reader.result c.index.result.now (omega arith) c.index.ensures 1 in
    running_after i c.args.self.now (Arrive c.args.worker c.args.edge) _ c.self.view_is
    (arrived i c.args.tasks.now.tasks c.args.worker c.args.edge c.reader-reader.result c.index.result.now _ _ a.same q read
    c.put_ready.ensures.deque c.forget.ensures.owed)
