use Rattle.std.proofs.Common.{◌≡◌, ◌<◌, true, Some}
use Rattle.fv_graph.specs.TasksBeside.{times}
use Rattle.fv_graph.specs.Graph.{outward}
use Rattle.fv_ready.proofs.lemmas.Seated.{hand_outward, may_some, exchanged}
use Rattle.fv_ready.proofs.board.Board.hand.Goals as goal

pub exchange-requires-clause-edge : goal.exchange-requires-clause-edge
exchange-requires-clause-edge g c = let b = c.args.self.now in let s = c.args.seat.now in
    hand_outward g.C.Parcel.edge_of g.C.Parcel.key_of b.table.shared.key b.tasks.now b.told s.in_hand s.seat.me.0 s.seat.me.1 c.args.edge
    c.requires.edge c.requires.seat.hand

pub returns-clause-seat : goal.returns-clause-seat
returns-clause-seat g c = let b = c.args.self.now in let s = c.args.seat.now in
    exchanged g.C.Parcel.edge_of g.C.Parcel.key_of b.table.shared.key b.table.shared.table_id s _
    (λ r. (r.started ≡ true) × (0 < times c.args.edge (outward b.tasks.now.tasks r.task))) c.args.edge (Some c.args.parcel) c.requires.seat c.requires.edge
    (may_some g.C.Parcel.edge_of g.C.Parcel.key_of b.table.shared.key c.args.edge c.args.parcel c.requires.parcel) c.exchange.ensures.seat
    c.exchange.ensures.same
