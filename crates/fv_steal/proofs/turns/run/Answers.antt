use Rattle.std.proofs.Common.{◌∙◌, ◌≤◌, ◌<◌, sym, subst, refl, length, ℕ, arith, vec_capacity}
use Rattle.fv_outside.specs.headline.Tasks.{Tasks}
use Rattle.fv_graph.specs.Graph.{inward, outward, task_at}
use Rattle.fv_ready.specs.Rule.{done_by, stamps}
use Rattle.fv_ready.specs.declared.view.View.{View}
use Rattle.fv_ready.specs.Seats.{view_of, slots_of}
use Rattle.fv_ready.specs.Boards.{about_of}
use Rattle.fv_steal.specs.Moves.{AreParcelsOf}
use Rattle.fv_steal.proofs.Boards.{of_hand, taken_full, taken_empty, at_task, has_stamp}
use Rattle.fv_steal.proofs.turns.run.Goals as goal

pub receive_all-requires-clause-full : goal.receive_all-requires-clause-full
receive_all-requires-clause-full g c =
    taken_full g.C.Parcel.edge_of g.C.Parcel.key_of c.args.board.now c.args.tasks.now c.requires.tasks c.args.taken.task (slots_of c.args.seat.now)
    (slots_of c.stamp-start.new.seat) c.requires.taken (of_hand _ _ _ c.requires.hand c.stamp-start.ensures.start refl).1

pub receive_all-requires-clause-empty : goal.receive_all-requires-clause-empty
receive_all-requires-clause-empty g c =
    taken_empty g.C.Parcel.edge_of g.C.Parcel.key_of c.args.board.now c.args.tasks.now c.requires.tasks c.args.taken.task (slots_of c.args.seat.now)
    (slots_of c.stamp-start.new.seat) c.requires.taken (of_hand _ _ _ c.requires.hand c.stamp-start.ensures.start refl).1 c.requires.wires c.requires.task

pub run-requires-clause-inward : goal.run-requires-clause-inward
run-requires-clause-inward g c =
    let b = c.requires.body in
    let n = at_task c.args.tasks.now.tasks (g.B.Body.tasks c.args.body.now) c.task-task.result c.args.taken.task b.0 c.task-task.ensures in
    subst (λ k. AreParcelsOf g.C.Parcel.edge_of g.C.Parcel.key_of k (inward (g.B.Body.tasks c.args.body.now) (task_at
    (g.B.Body.tasks c.args.body.now) c.task-task.result.loop_no c.task-task.result.vector)) c.receive_all.new.parcels.items) (sym b.1)
    (subst (λ (p : Tasks × ℕ). AreParcelsOf g.C.Parcel.edge_of g.C.Parcel.key_of (g.C.Parcel.key_of (about_of c.args.board.now).sample.value)
    (inward p.0 p.1) c.receive_all.new.parcels.items) (λ i. (sym b.0 i, sym n i)) c.receive_all.ensures.parcels)

pub run-requires-clause-room : goal.run-requires-clause-room
run-requires-clause-room g c =
    let b = c.requires.body in
    let n = at_task c.args.tasks.now.tasks (g.B.Body.tasks c.args.body.now) c.task-task.result c.args.taken.task b.0 c.task-task.ensures in
    subst (λ (p : Tasks × ℕ). length (outward p.0 p.1) ≤ vec_capacity c.receive_all.new.parcels) (λ i. (sym b.0 i, sym n i))
    (let r = c.requires.room.1 in let k = c.receive_all.ensures.room in omega arith)

pub hand_all-requires-clause-parcels : goal.hand_all-requires-clause-parcels
hand_all-requires-clause-parcels g c =
    let b = c.requires.body in
    let n = at_task c.args.tasks.now.tasks (g.B.Body.tasks c.args.body.now) c.task-task.result c.args.taken.task b.0 c.task-task.ensures in
    subst (λ k. AreParcelsOf g.C.Parcel.edge_of g.C.Parcel.key_of k (outward c.args.tasks.now.tasks c.args.taken.task) c.run.new.parcels.items) b.1
    (subst (λ (p : Tasks × ℕ). AreParcelsOf g.C.Parcel.edge_of g.C.Parcel.key_of (g.B.Body.key c.args.body.now)
    (outward p.0 p.1) c.run.new.parcels.items) (λ i. (b.0 i, n i)) c.run.ensures.outward)

pub returns-clause-spans : goal.returns-clause-spans
returns-clause-spans g c =
    let started = of_hand _ _ _ c.requires.hand c.stamp-start.ensures.list in
    c.stamp-finish.ensures.above c.stamp-start.result
    (subst (λ (v : View _). 0 < done_by (stamps c.stamp-start.result) v) (sym (c.hand_all.ensures.same.0 ∙ c.receive_all.ensures.same.0))
    (has_stamp c.stamp-start.result c.args.taken.task (view_of c.args.seat.now) (view_of c.stamp-start.new.seat) started))
