use Rattle.std.proofs.Common.{true, arith}
use Rattle.fv_graph.proofs.lemmas.Graphs.{is_wires}
use Rattle.fv_ready.specs.Wired.{graph_wires}
use Rattle.fv_ready.specs.Rule.{noted}
use Rattle.fv_ready.specs.declared.view.Deed.TheVariants.{Stamped}
use Rattle.fv_ready.proofs.lemmas.Starting.{starting}
use Rattle.fv_ready.proofs.lemmas.Hands.{busy_won}
use Rattle.fv_ready.proofs.lemmas.Seated.{told_graph, told_few, busy_of, seat_after, hand_started}
use Rattle.fv_ready.proofs.board.Board.start.Goals as goal

pub fetch_add-number-requires : goal.fetch_add-number-requires
fetch_add-number-requires g c = let b = c.args.self.now in let s = c.requires.seat in let a = b.table.shared.key in let old = c.args.seat.now in
    let busy = busy_of g.C.Parcel.edge_of g.C.Parcel.key_of b old s _ c.requires.hand in (
      s.name,
      (let z = b.sized.0 in omega arith),
      starting graph_wires g.C.Parcel.edge_of g.C.Parcel.key_of a (is_wires a.tasks.value.tasks (told_graph b))
          old.seat.me.0 old.seat.me.1 c.args.task old.seat.id b.table.shared.table_id.slots s.board busy.there
          (let w = busy_won graph_wires g.C.Parcel.edge_of g.C.Parcel.key_of a old.seat.me.0 old.seat.me.1 c.args.task _ busy in
          omega arith) busy.started busy.last
          (told_few b),
    )

pub returns-clause-list : goal.returns-clause-list
returns-clause-list g c = let b = c.args.self.now in let s = c.requires.seat in let old = c.args.seat.now in
    (c.fetch_add-number.ensures.2 c.args.task (busy_of g.C.Parcel.edge_of g.C.Parcel.key_of b old s _ c.requires.hand).last).0

pub returns-clause-above : goal.returns-clause-above
returns-clause-above g c = let b = c.args.self.now in let s = c.requires.seat in let old = c.args.seat.now in
    (c.fetch_add-number.ensures.2 c.args.task (busy_of g.C.Parcel.edge_of g.C.Parcel.key_of b old s _ c.requires.hand).last).2

pub returns-clause-slots : goal.returns-clause-slots
returns-clause-slots g c = let b = c.args.self.now in let s = c.requires.seat in let old = c.args.seat.now in
    (c.fetch_add-number.ensures.2 c.args.task (busy_of g.C.Parcel.edge_of g.C.Parcel.key_of b old s _ c.requires.hand).last).1

pub returns-clause-seat : goal.returns-clause-seat
returns-clause-seat g c = let b = c.args.self.now in let s = c.requires.seat in let a = b.table.shared.key in let old = c.args.seat.now in
    let busy = busy_of g.C.Parcel.edge_of g.C.Parcel.key_of b old s _ c.requires.hand in
    let told = c.fetch_add-number.ensures.2 c.args.task busy.last in
    seat_after g.C.Parcel.edge_of g.C.Parcel.key_of a b.table.shared.table_id old _
    (noted old.seat.me.0 (Stamped c.fetch_add-number.result c.args.task true)) old.seat.me.1 s c.fetch_add-number.ensures.0 told.0
    told.1 s.board s.mirror (omega arith)
    (hand_started g.C.Parcel.edge_of g.C.Parcel.key_of a old.seat.me.0 old.seat.me.1 c.args.task c.fetch_add-number.result busy)
