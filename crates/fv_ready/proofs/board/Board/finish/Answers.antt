use Rattle.std.proofs.Common.{◌+◌, ◌-◌, ◌++◌, false, drop, length, ap, sym, ◌∙◌, arith}
use Rattle.fv_graph.specs.Graph.{Graph, inward, outward, feeds_of}
use Rattle.fv_graph.proofs.lemmas.Graphs.{is_wires}
use Rattle.fv_ready.specs.Wired.{graph_wires}
use Rattle.fv_ready.specs.Rule.{noted, going}
use Rattle.fv_ready.specs.declared.view.Deed.TheVariants.{Stamped}
use Rattle.fv_ready.proofs.lemmas.Leaving.{leads, leaving}
use Rattle.fv_ready.proofs.lemmas.Seated.{told_graph, told_handed, told_few, feeds_fit, busy_of, seat_after, hand_finished, places_left}
use Rattle.fv_ready.proofs.board.Board.finish.Goals as goal

pub fetch_add-number-requires : goal.fetch_add-number-requires
fetch_add-number-requires g c = let b = c.args.self.now in let s = c.requires.seat in let a = b.table.shared.key in let old = c.args.seat.now in
    let busy = busy_of g.C.Parcel.edge_of g.C.Parcel.key_of b old s _ c.requires.hand in
    let handed = told_handed g.C.Parcel.edge_of g.C.Parcel.key_of b c.args.task old c.requires.handed in (
      s.name,
      (let z = b.sized.0 in omega arith),
      leaving graph_wires g.C.Parcel.edge_of g.C.Parcel.key_of a (is_wires a.tasks.value.tasks (told_graph b))
          old.seat.me.0 old.seat.me.1 c.args.task busy handed (leads a.tasks.value.tasks c.args.task)
          old.seat.id b.table.shared.table_id.slots s.board (told_few b),
    )

pub returns-clause-list : goal.returns-clause-list
returns-clause-list g c = let b = c.args.self.now in let s = c.requires.seat in let old = c.args.seat.now in
    (c.fetch_add-number.ensures.2 b.table.shared.key s.board c.args.task
    (busy_of g.C.Parcel.edge_of g.C.Parcel.key_of b old s _ c.requires.hand).last).0

pub returns-clause-above : goal.returns-clause-above
returns-clause-above g c = let b = c.args.self.now in let s = c.requires.seat in let old = c.args.seat.now in
    (c.fetch_add-number.ensures.2 b.table.shared.key s.board c.args.task
    (busy_of g.C.Parcel.edge_of g.C.Parcel.key_of b old s _ c.requires.hand).last).2

pub returns-clause-slots : goal.returns-clause-slots
returns-clause-slots g c = let b = c.args.self.now in let s = c.requires.seat in let old = c.args.seat.now in
    (c.fetch_add-number.ensures.2 b.table.shared.key s.board c.args.task
    (busy_of g.C.Parcel.edge_of g.C.Parcel.key_of b old s _ c.requires.hand).last).1 ∙ ap
    (λ (k : Graph). drop (length (inward k.tasks c.args.task) + (length (outward k.tasks c.args.task) - length (feeds_of k.tasks c.args.task)))
    old.seat.me.1) b.told

pub append-requires : goal.append-requires
append-requires g c = let b = c.args.self.now in let s = c.requires.seat in let a = b.table.shared.key in let old = c.args.seat.now in
    let busy = busy_of g.C.Parcel.edge_of g.C.Parcel.key_of b old s _ c.requires.hand in
    let r = s.room c.args.task busy.there in let f = feeds_fit a b.tasks.now c.args.task b.told in let k = c.clear.ensures in
    let l = ap length c.feeds.ensures in omega arith

pub returns-clause-seat : goal.returns-clause-seat
returns-clause-seat g c = let b = c.args.self.now in let s = c.requires.seat in let a = b.table.shared.key in let old = c.args.seat.now in
    let busy = busy_of g.C.Parcel.edge_of g.C.Parcel.key_of b old s _ c.requires.hand in
    let graph = told_graph b in
    let handed = told_handed g.C.Parcel.edge_of g.C.Parcel.key_of b c.args.task old c.requires.handed in
    let told = c.fetch_add-number.ensures.2 a s.board c.args.task busy.last in
    seat_after g.C.Parcel.edge_of g.C.Parcel.key_of a b.table.shared.table_id old _
    (noted old.seat.me.0 (Stamped c.fetch_add-number.result c.args.task false))
    (drop (going graph_wires g.C.Parcel.edge_of g.C.Parcel.key_of a c.args.task) old.seat.me.1) s c.fetch_add-number.ensures.0 told.0 told.1 s.board
    (places_left g.C.Parcel.edge_of g.C.Parcel.key_of a graph old.seat.me.0 old.seat.me.1 c.args.task busy handed ∙ ap
    (λ (h : Graph). feeds_of h.tasks c.args.task) b.told ∙ sym (c.append.ensures.items ∙ (λ i. c.clear.ensures.items i ++ c.feeds.ensures i)))
    (let k = c.clear.ensures.capacity in let l = c.append.ensures.room in omega arith)
    (hand_finished g.C.Parcel.edge_of g.C.Parcel.key_of a graph old.seat.me.0 old.seat.me.1 c.args.task busy handed c.fetch_add-number.result)
