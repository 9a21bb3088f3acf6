use Rattle.std.proofs.Common.{◌<◌, None, sym, ◌∙◌, refl, subst}
use Rattle.std.specs.Option.{IsSome}
use Rattle.fv_graph.specs.TasksBeside.{times}
use Rattle.fv_graph.specs.Graph.{inward}
use Rattle.fv_ready.specs.Wired.{graph_wires}
use Rattle.fv_ready.proofs.lemmas.Hands.{may_none}
use Rattle.fv_ready.proofs.lemmas.Seated.{hand_inward, hand_may, exchanged}
use Rattle.fv_ready.proofs.board.Board.receive.Goals as goal

pub exchange-requires-clause-edge : goal.exchange-requires-clause-edge
exchange-requires-clause-edge g c = let b = c.args.self.now in let s = c.args.seat.now in
    hand_inward g.C.Parcel.edge_of g.C.Parcel.key_of b.table.shared.key b.tasks.now b.told s.in_hand s.seat.me.0 s.seat.me.1 c.args.edge
    c.requires.edge c.requires.seat.hand

pub unwrap-requires : goal.unwrap-requires
unwrap-requires g c = subst IsSome (sym c.exchange.ensures.found) c.requires.full

pub returns-clause-parcel : goal.returns-clause-parcel
returns-clause-parcel g c = let b = c.args.self.now in let s = c.args.seat.now in
    hand_may g.C.Parcel.edge_of g.C.Parcel.key_of b.table.shared.key s.in_hand
    (λ r. 0 < times c.args.edge (inward b.tasks.now.tasks r.task)) s.seat.me.0 s.seat.me.1 c.args.edge c.unwrap.result c.requires.edge
    c.requires.seat.hand (sym c.exchange.ensures.found ∙ c.unwrap.ensures)

pub returns-clause-seat : goal.returns-clause-seat
returns-clause-seat g c = let b = c.args.self.now in let s = c.args.seat.now in
    exchanged g.C.Parcel.edge_of g.C.Parcel.key_of b.table.shared.key b.table.shared.table_id s _
    (λ r. 0 < times c.args.edge (inward b.tasks.now.tasks r.task)) c.args.edge None c.requires.seat c.requires.edge
    (may_none graph_wires g.C.Parcel.edge_of g.C.Parcel.key_of b.table.shared.key c.args.edge None refl) c.exchange.ensures.seat c.exchange.ensures.same
