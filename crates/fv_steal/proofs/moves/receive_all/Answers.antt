use Rattle.std.proofs.Common.{◌∙◌, ap, get_or, None}
use Rattle.fv_graph.specs.Graph.{inward}
use Rattle.fv_ready.specs.Carried.{with_slot}
use Rattle.fv_ready.specs.Seats.{slots_of, hand_of}
use Rattle.fv_ready.specs.Boards.{about_of}
use Rattle.fv_steal.proofs.Boards.{edge_in, at_index, low_in, first_full}
use Rattle.fv_steal.proofs.Parcels.{full_behind, empty_still, parcels_more}
use Rattle.fv_steal.proofs.moves.receive_all.Goals as goal

pub receive-parcel-requires-clause-edge : goal.receive-parcel-requires-clause-edge
receive-parcel-requires-clause-edge g c =
    edge_in c.args.board.now c.args.tasks.now c.requires.tasks (hand_of c.loop-i.seat) c.args.t (c.loop-i.invariant.same.1 ∙ c.requires.hand)
    (get_or c.inward-edges.result.now c.loop-i.i 0)
    (at_index c.inward-edges.result.now (inward c.args.tasks.now.tasks c.args.t) c.loop-i.i c.inward-edges.ensures c.loop-i-test.true)

pub receive-parcel-requires-clause-full : goal.receive-parcel-requires-clause-full
receive-parcel-requires-clause-full g c =
    first_full (slots_of c.loop-i.seat) c.inward-edges.result.now (inward c.args.tasks.now.tasks c.args.t) c.loop-i.i c.inward-edges.ensures c.loop-i-test.true
    c.loop-i.invariant.full

pub loop-i-preserved : goal.loop-i-preserved
loop-i-preserved g c =
    let t = c.args.t in let tasks = c.args.tasks.now.tasks in let i = c.loop-i.i in let es = inward tasks t in let xs = c.inward-edges.result.now in
    let low = low_in xs es i c.inward-edges.ensures c.loop-i-test.true in
    let slots = slots_of c.loop-i.seat in let slots' = slots_of c.receive-parcel.new.seat in
    let at = c.receive-parcel.ensures.slots ∙ ap (λ l. with_slot slots (get_or l i 0) None) c.inward-edges.ensures in
    let p = c.receive-parcel.ensures.parcel in record {
      seat = c.receive-parcel.ensures.seat;
      same = (c.receive-parcel.ensures.same.0 ∙ c.loop-i.invariant.same.0, c.receive-parcel.ensures.same.1 ∙ c.loop-i.invariant.same.1);
      full = full_behind tasks c.requires.wires t c.requires.task i slots slots' low c.loop-i.invariant.full at;
      empty = empty_still tasks c.requires.wires t c.requires.task i slots slots' low c.loop-i.invariant.empty at;
      parcels = parcels_more g.C.Parcel.edge_of g.C.Parcel.key_of (g.C.Parcel.key_of (about_of c.args.board.now).sample.value) es i
          c.loop-i.parcels.items c.push_reserved.new.self.items c.receive-parcel.result low c.loop-i.invariant.parcels
          (p.0 ∙ ap (λ l. get_or l i 0) c.inward-edges.ensures) p.1 c.push_reserved.ensures.items;
      room = c.push_reserved.ensures.capacity ∙ c.loop-i.invariant.room;
    }
