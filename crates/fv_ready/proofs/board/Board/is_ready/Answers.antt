use Rattle.std.proofs.Common.{◌≡◌, ◌+◌, ◌-◌, ap, ◌∙◌, refl, arith}
use Rattle.fv_ready.specs.Wired.{graph_wires}
use Rattle.fv_ready.specs.Rule.{noted}
use Rattle.fv_ready.specs.declared.view.Deed.TheVariants.{Saw}
use Rattle.fv_ready.proofs.lemmas.Load.{looks}
use Rattle.fv_ready.specs.Seats.{view_of}
use Rattle.fv_ready.proofs.lemmas.Seated.{seat_after, hand_seen}
use Rattle.fv_ready.proofs.board.Board.is_ready.Goals as goal

pub load-found-requires : goal.load-found-requires
load-found-requires g c = let b = c.args.self.now in let s = c.requires.seat in (
  s.name,
  (let z = b.sized.0 in let r = c.requires.task in omega arith),
  looks graph_wires g.C.Parcel.edge_of g.C.Parcel.key_of b.table.shared.key c.args.seat.now.seat.me c.args.t c.args.seat.now.seat.id
      b.table.shared.table_id.slots _ s.board refl,
)

pub returns-clause-list : goal.returns-clause-list
returns-clause-list g c = (
  c.load-found.result,
  c.load-found.ensures.2.0 ∙ ap (λ u. noted (view_of c.args.seat.now) (Saw u c.load-found.result)) (let q : 1 + c.args.t - 1 ≡ c.args.t = omega arith in q),
  refl,
)

pub returns-clause-seat : goal.returns-clause-seat
returns-clause-seat g c = let b = c.args.self.now in let s = c.requires.seat in let old = c.args.seat.now in let r = c.load-found.ensures in
    seat_after g.C.Parcel.edge_of g.C.Parcel.key_of b.table.shared.key b.table.shared.table_id old _
    (noted old.seat.me.0 (Saw c.args.t c.load-found.result)) old.seat.me.1 s r.0
    (r.2.0 ∙ ap (λ u. noted old.seat.me.0 (Saw u c.load-found.result)) (let q : 1 + c.args.t - 1 ≡ c.args.t = omega arith in
    q)) r.2.1 s.board s.mirror (omega arith)
    (hand_seen g.C.Parcel.edge_of g.C.Parcel.key_of b.table.shared.key old.in_hand old.seat.me.0 old.seat.me.1 c.args.t c.load-found.result s.hand)
