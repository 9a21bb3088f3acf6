use Rattle.std.proofs.Common.{◌≡◌, ◌+◌, ◌==◌, [], ◌++◌, true, false, ap, sym, ◌∙◌, refl, subst, arith, eq-eqb, ne_eqb, length, length-append}
use Rattle.fv_graph.specs.TasksBeside.{task_count}
use Rattle.fv_graph.specs.Graph.{Graph, edges_of, inward, outward}
use Rattle.fv_graph.proofs.lemmas.Graphs.{is_wires}
use Rattle.fv_ready.specs.Wired.{graph_wires}
use Rattle.fv_ready.specs.Rule.{noted, places}
use Rattle.fv_ready.specs.Carried.{IsFree}
use Rattle.fv_ready.specs.declared.view.Deed.TheVariants.{Claimed}
use Rattle.fv_ready.proofs.lemmas.Claim.{tell}
use Rattle.fv_ready.proofs.lemmas.Claims.{claims_whole_at}
use Rattle.fv_ready.proofs.lemmas.Seated.{told_graph, told_below, owes_nothing, free_of, hand_none, hand_lost, won_busy, lost_slots, seat_after}
use Rattle.fv_ready.proofs.board.Board.claim.Goals as goal

pub swap-found-requires : goal.swap-found-requires
swap-found-requires g c = let b = c.args.self.now in let s = c.requires.seat in let a = b.table.shared.key in let old = c.args.seat.now in (
  s.name,
  omega (arith, b.sized.0, c.len-n.ensures.value, c.requires.ready.0),
  claims_whole_at graph_wires g.C.Parcel.edge_of g.C.Parcel.key_of a old.seat.me c.args.t old.seat.id s.board b.table.shared.table_id.slots _
      (b.sized.1 ∙ ap (λ (h : Graph). edges_of h.tasks) (sym b.told)) (ap (λ k. 1 + k + c.args.t)
      (c.len-n.ensures.value ∙ ap (λ (h : Graph). task_count h.tasks) (sym b.told)))
      (is_wires a.tasks.value.tasks (told_graph b)) (told_below b c.args.t c.requires.ready.0) c.requires.ready.1
      (owes_nothing g.C.Parcel.edge_of g.C.Parcel.key_of b old s c.requires.free.0 c.requires.free.1),
)

pub append-requires : goal.append-requires
append-requires g c = let b = c.args.self.now in let s = c.requires.seat in let old = c.args.seat.now in
    let r = s.room c.args.t (told_below b c.args.t c.requires.ready.0) in
    let m = ap length (sym s.mirror ∙ ap places c.requires.free.1) in let k = old.edges.ok.0 in
    let i = ap length c.inward.ensures in let j = ap (λ (h : Graph). length (inward h.tasks c.args.t)) b.told in omega arith

pub append-requires-2 : goal.append-requires-2
append-requires-2 g c = let b = c.args.self.now in let s = c.requires.seat in let old = c.args.seat.now in
    let r = s.room c.args.t (told_below b c.args.t c.requires.ready.0) in
    let m = ap length (sym s.mirror ∙ ap places c.requires.free.1) in let k = old.edges.ok.0 in let n = c.append.new.list.ok.0 in
    let l = ap length c.append.ensures.items ∙ length-append old.edges.items c.inward.result.now in let p = c.append.ensures.room in
    let i = ap length c.inward.ensures in let j = ap (λ (h : Graph). length (inward h.tasks c.args.t)) b.told in
    let u = ap length c.outward.ensures in let w = ap (λ (h : Graph). length (outward h.tasks c.args.t)) b.told in omega arith

pub returns-then-found-ne0-clause-seat : goal.returns-then-found-ne0-clause-seat
returns-then-found-ne0-clause-seat g c =
    let b = c.args.self.now in let s = c.requires.seat in let a = b.table.shared.key in let old = c.args.seat.now in let r = c.swap-found.ensures in
    let x = tell graph_wires g.C.Parcel.edge_of g.C.Parcel.key_of a old.seat.me c.swap-found.new.seat.me b.table.shared.table_id.slots
    c.len-n.result c.args.t c.swap-found.result s.board (c.len-n.ensures.value ∙ ap (λ (h : Graph). task_count h.tasks) (sym b.told)) r.2 in
    let no_win : (c.swap-found.result == 0) ≡ false = ne_eqb c.swap-found.result 0 c.if-found-ne0.true in
    let free = free_of g.C.Parcel.edge_of g.C.Parcel.key_of b old s c.requires.free.0 in
    seat_after g.C.Parcel.edge_of g.C.Parcel.key_of a b.table.shared.table_id old _ (noted old.seat.me.0 (Claimed c.args.t false)) [] s r.0
    (x.0 ∙ ap (λ w. noted old.seat.me.0 (Claimed c.args.t w)) no_win)
    (lost_slots g.C.Parcel.edge_of g.C.Parcel.key_of a (c.swap-found.result == 0) c.args.t old.seat.me c.swap-found.new.seat.me no_win x.1
    c.requires.free.1) s.board (sym (ap places c.requires.free.1) ∙ s.mirror) (omega arith)
    (hand_none g.C.Parcel.edge_of g.C.Parcel.key_of a old.in_hand (noted old.seat.me.0 (Claimed c.args.t false)) [] c.requires.free.0
    (hand_lost g.C.Parcel.edge_of g.C.Parcel.key_of a old.seat.me.0 [] c.args.t
    (subst (λ l. IsFree graph_wires g.C.Parcel.edge_of g.C.Parcel.key_of a old.seat.me.0 l) c.requires.free.1 free)))

pub returns-clause-seat : goal.returns-clause-seat
returns-clause-seat g c =
    let b = c.args.self.now in let s = c.requires.seat in let a = b.table.shared.key in let old = c.args.seat.now in let r = c.swap-found.ensures in
    let x = tell graph_wires g.C.Parcel.edge_of g.C.Parcel.key_of a old.seat.me c.swap-found.new.seat.me b.table.shared.table_id.slots
    c.len-n.result c.args.t c.swap-found.result s.board (c.len-n.ensures.value ∙ ap (λ (h : Graph). task_count h.tasks) (sym b.told)) r.2 in
    let win : (c.swap-found.result == 0) ≡ true = eq-eqb c.swap-found.result 0 c.if-found-ne0.false in
    let busy = won_busy g.C.Parcel.edge_of g.C.Parcel.key_of a (c.swap-found.result == 0) c.args.t old.seat.me c.swap-found.new.seat.me win
    x.1 c.requires.free.1 (told_below b c.args.t c.requires.ready.0)
    (owes_nothing g.C.Parcel.edge_of g.C.Parcel.key_of b old s c.requires.free.0 c.requires.free.1) in
    let empty = sym s.mirror ∙ ap places c.requires.free.1 in
    seat_after g.C.Parcel.edge_of g.C.Parcel.key_of a b.table.shared.table_id old _ (noted old.seat.me.0 (Claimed c.args.t true))
    c.swap-found.new.seat.me.1 s r.0 (x.0 ∙ ap (λ w. noted old.seat.me.0 (Claimed c.args.t w)) win) refl s.board
    (busy.at ∙ ap (λ (h : Graph). inward h.tasks c.args.t ++ outward h.tasks c.args.t) b.told ∙ sym
    (c.append-2.ensures.items ∙ (λ i. c.append.ensures.items i ++ c.outward.ensures i) ∙
    (λ i. (empty i ++ c.inward.ensures i) ++ outward b.tasks.now.tasks c.args.t)))
    (let k = c.append.ensures.room in let l = c.append-2.ensures.room in omega arith) busy
