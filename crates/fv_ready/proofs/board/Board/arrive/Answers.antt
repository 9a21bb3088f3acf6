use Rattle.std.proofs.Common.{◌≡◌, ◌+◌, ◌-◌, ◌%◌, ◌^◌, ◌<◌, ◌++◌, ap, sym, ◌∙◌, refl, subst, arith}
use mathlib.Core.Option.{none}
use Rattle.atomic_table.specs.Table.{Allows, step, rest}
use Rattle.fv_graph.specs.TasksBeside.{times}
use Rattle.fv_graph.specs.Graph.{Graph, reader_of}
use Rattle.fv_graph.proofs.lemmas.Graphs.{is_wires}
use Rattle.fv_ready.specs.Wired.{graph_wires}
use Rattle.fv_ready.specs.Rule.{Gives, front_edge, noted, zeroes, done_by}
use Rattle.fv_ready.specs.inner.Spun.{spun}
use Rattle.fv_ready.specs.Carried.{but_slot}
use Rattle.fv_ready.specs.Whole.{IsWhole}
use Rattle.fv_ready.specs.declared.view.Deed.TheVariants.{Arrived}
use Rattle.fv_ready.proofs.lemmas.Arriving.{arriving}
use Rattle.fv_ready.proofs.Found.{at_place, placed, in_front, long_items, back_but, mirror_but}
use Rattle.fv_ready.proofs.lemmas.Seated.{told_graph, owes_of, inner_fits, hand_none, free_front, hand_arrived, seat_after}
use Rattle.fv_ready.proofs.board.Board.arrive.Goals as goal

pub place_of-place-requires : goal.place_of-place-requires
place_of-place-requires g c = let b = c.args.self.now in let s = c.args.seat.now in let h = c.requires.seat in
    let o = owes_of g.C.Parcel.edge_of g.C.Parcel.key_of b s c.args.edge h c.requires.inner c.requires.owed in
    subst (λ l. 0 < times c.args.edge l) (h.mirror ∙ sym c.as_slice.ensures.value) o.has

pub reader-reader-requires : goal.reader-reader-requires
reader-reader-requires g c = let b = c.args.self.now in (inner_fits b.tasks.now.tasks b.graph c.args.edge c.requires.inner).0

pub overflow_sub-behind : goal.overflow_sub-behind
overflow_sub-behind g c = let s = c.args.seat.now in let h = c.requires.seat in
    let at = at_place s _ c.args.edge c.place_of-place.result h.mirror c.as_slice.ensures.value c.place_of-place.ensures in
    let l = long_items at in let k = s.edges.ok.0 in omega arith

pub fetch_sub-found-requires : goal.fetch_sub-found-requires
fetch_sub-found-requires g c =
    let b = c.args.self.now in let a = b.table.shared.key in let s = c.args.seat.now in let h = c.requires.seat in
    let o = owes_of g.C.Parcel.edge_of g.C.Parcel.key_of b s c.args.edge h c.requires.inner c.requires.owed in
    let at = at_place s _ c.args.edge c.place_of-place.result h.mirror c.as_slice.ensures.value c.place_of-place.ensures in
    let front = free_front g.C.Parcel.edge_of g.C.Parcel.key_of a s.seat.me.0 s.seat.me.1 at.at.0 at.at.1 c.args.edge (placed at) at.at.4 o.free in
    let m = c.spin.ensures.2 ∙ ap (λ l. (s.seat.me.0, l)) (in_front at _ refl) in
    let slots = b.table.shared.table_id.slots in let word = 1 + c.reader-reader.result in (
      c.spin.ensures.0 ∙ h.name,
      (let z = b.sized.0 in let r = (inner_fits b.tasks.now.tasks b.graph c.args.edge c.requires.inner).1 in let e = c.reader-reader.ensures in omega arith),
      subst (λ m. Allows (λ st. IsWhole graph_wires g.C.Parcel.edge_of g.C.Parcel.key_of a st) slots c.spin.new.seat.id m word
          (λ k. (k + (2 ^ 64 - 1)) % 2 ^ 64) (Gives graph_wires (step slots word 1 0 none) m)) (sym m)
          (arriving graph_wires g.C.Parcel.edge_of g.C.Parcel.key_of a (is_wires a.tasks.value.tasks (told_graph b)) s.seat.me.0 c.args.edge
          (placed at).x ((placed at).back ++ (placed at).front) c.spin.new.seat.id slots word h.board o.inner o.done o.new front.full.0
          (ap (λ k. 1 + k) (c.reader-reader.ensures ∙ ap (λ (k : Graph). reader_of k.tasks c.args.edge) (sym b.told)))),
    )

pub returns-clause-list : goal.returns-clause-list
returns-clause-list g c = let s = c.args.seat.now in let h = c.requires.seat in
    let at = at_place s _ c.args.edge c.place_of-place.result h.mirror c.as_slice.ensures.value c.place_of-place.ensures in
    let m = c.spin.ensures.2 ∙ ap (λ l. (s.seat.me.0, l)) (in_front at _ refl) in
    ap (λ m. m.0) c.spin-2.ensures.2 ∙ c.fetch_sub-found.ensures.2.0 ∙ ap (λ m. noted m.0 (Arrived (front_edge m.1) (c.fetch_sub-found.result - 1))) m

pub returns-clause-slots : goal.returns-clause-slots
returns-clause-slots g c = let s = c.args.seat.now in let h = c.requires.seat in let k = s.edges.ok.0 in
    let at = at_place s _ c.args.edge c.place_of-place.result h.mirror c.as_slice.ensures.value c.place_of-place.ensures in
    let m = in_front at c.spin.new.seat.me.1 (ap (λ m. m.1) c.spin.ensures.2) in let behind = c.len.result - 1 - c.place_of-place.result in
    ap (λ m. m.1) c.spin-2.ensures.2 ∙ ap (spun behind) (c.fetch_sub-found.ensures.2.1 ∙ ap rest m)
    ∙ back_but at behind (ap (λ n. n - 1 - c.place_of-place.result) (c.len.ensures ∙ k))

pub returns-clause-seat : goal.returns-clause-seat
returns-clause-seat g c =
    let b = c.args.self.now in let a = b.table.shared.key in let s = c.args.seat.now in let h = c.requires.seat in let k = s.edges.ok.0 in
    let o = owes_of g.C.Parcel.edge_of g.C.Parcel.key_of b s c.args.edge h c.requires.inner c.requires.owed in
    let at = at_place s _ c.args.edge c.place_of-place.result h.mirror c.as_slice.ensures.value c.place_of-place.ensures in
    let m = c.spin.ensures.2 ∙ ap (λ l. (s.seat.me.0, l)) (in_front at _ refl) in
    let n = c.fetch_sub-found.result - 1 in let behind = c.len.result - 1 - c.place_of-place.result in
    seat_after g.C.Parcel.edge_of g.C.Parcel.key_of a b.table.shared.table_id s _ (noted s.seat.me.0 (Arrived c.args.edge n))
    (but_slot s.seat.me.1 c.args.edge) h
    (c.spin-2.ensures.0 ∙ c.fetch_sub-found.ensures.0 ∙ c.spin.ensures.0)
    (ap (λ m. m.0) c.spin-2.ensures.2 ∙ c.fetch_sub-found.ensures.2.0 ∙ ap (λ m. noted m.0 (Arrived (front_edge m.1) n)) m)
    (ap (λ m. m.1) c.spin-2.ensures.2 ∙ ap (spun behind) (c.fetch_sub-found.ensures.2.1 ∙ ap (λ m. rest m.1) m)
    ∙ back_but at behind (ap (λ n. n - 1 - c.place_of-place.result) (c.len.ensures ∙ k)))
    h.board (mirror_but at _ c.remove.ensures.items) (let q = c.remove.ensures.capacity in omega arith)
    (let q = o.hand in hand_none g.C.Parcel.edge_of g.C.Parcel.key_of a s.in_hand (noted s.seat.me.0 (Arrived c.args.edge n))
    (but_slot s.seat.me.1 c.args.edge) q
    (hand_arrived g.C.Parcel.edge_of g.C.Parcel.key_of a s.seat.me.0 s.seat.me.1 at.at.0 at.at.1 c.args.edge (placed at) at.at.4 o.free n))

pub returns-clause-hand : goal.returns-clause-hand
returns-clause-hand g c = let b = c.args.self.now in let s = c.args.seat.now in let h = c.requires.seat in
    let o = owes_of g.C.Parcel.edge_of g.C.Parcel.key_of b s c.args.edge h c.requires.inner c.requires.owed in
    (o.hand, o.hand)

pub returns-clause-first : goal.returns-clause-first
returns-clause-first g c = let b = c.args.self.now in let s = c.args.seat.now in let h = c.requires.seat in
    let at = at_place s _ c.args.edge c.place_of-place.result h.mirror c.as_slice.ensures.value c.place_of-place.ensures in
    let m = c.spin.ensures.2 ∙ ap (λ l. (s.seat.me.0, l)) (in_front at _ refl) in
    let f = c.fetch_sub-found.ensures.2.3 b.table.shared.key (ap (λ m. m.0.board) m ∙ h.board) in
    subst (λ (k : Graph). done_by (zeroes (graph_wires k).net ((graph_wires k).net.reader c.args.edge)) s.seat.me.0 ≡ 0) b.told
    (subst (λ m. done_by (zeroes (graph_wires b.table.shared.key.tasks.value).net
    ((graph_wires b.table.shared.key.tasks.value).net.reader (front_edge m.1))) m.0 ≡ 0) m f)
