use Rattle.std.proofs.Common.{◌≡◌, [], ◌∷◌, ◌++◌, ap, ◌∙◌, subst, arith, ◌==◌}
use Rattle.std.specs.Option.{option_to_list}
use Rattle.fv_graph.specs.Tasks.{bit}
use Rattle.fv_graph.specs.TasksBeside.{times}
use Rattle.fv_graph.proofs.lemmas.Counts.{total_append}
use Rattle.fv_ready.specs.Wired.{graph_wires}
use Rattle.fv_ready.specs.Rule.{done_by}
use Rattle.fv_ready.specs.Closed.{AreSeats}
use Rattle.fv_ready.proofs.lemmas.Closing.{gives_back, whole_joins}
use Rattle.fv_graph.proofs.lemmas.Graphs.{is_wires}
use Rattle.fv_ready.proofs.lemmas.Seated.{hand_mine}
use Rattle.fv_ready.proofs.Emptying.{seats_front, told_snoc, having_snoc}
use Rattle.fv_ready.proofs.close.gather.Goals as goal

pub loop-other-init : goal.loop-other-init
loop-other-init g c =
    let t = c.args.table.now in
    let e : c.args.seats.items ≡ c.pop.new.self.items ++ c.unwrap-all.result ∷ [] = c.pop.ensures.items ∙ ap
    (λ o. c.pop.new.self.items ++ option_to_list o) c.unwrap-all.ensures in
    let p = seats_front g.C.Parcel.edge_of g.C.Parcel.key_of t.table_id t.key c.pop.new.self.items c.unwrap-all.result
    (subst (λ l. AreSeats g.C.Parcel.edge_of g.C.Parcel.key_of t.table_id t.key l) e c.requires.seats) in record {
      name = p.1.name;
      board = p.1.board;
      seats = p.0;
      lists = λ f. let r = told_snoc f c.pop.new.self.items c.unwrap-all.result c.args.seats.items e in omega arith;
      numbers = λ k. let r = having_snoc k c.pop.new.self.items c.unwrap-all.result c.args.seats.items e in omega arith;
    }

pub load-requires : goal.load-requires
load-requires g c =
    let t = c.args.table.now in
    let p = seats_front g.C.Parcel.edge_of g.C.Parcel.key_of t.table_id t.key c.pop-in-loop-other.new.self.items c.in-Some.other
    (subst (λ l. AreSeats g.C.Parcel.edge_of g.C.Parcel.key_of t.table_id t.key l) c.in-Some.ensures.items c.loop-other.invariant.seats) in
    let m = hand_mine g.C.Parcel.edge_of g.C.Parcel.key_of t.key c.requires.graph c.in-Some.other.in_hand c.in-Some.other.seat.me.0
    c.in-Some.other.seat.me.1 p.1.hand in (
      p.1.name,
      c.requires.words,
      gives_back graph_wires g.C.Parcel.edge_of g.C.Parcel.key_of t.key (is_wires t.key.tasks.value.tasks c.requires.graph)
          c.in-Some.other.seat.me t.table_id.slots c.in-Some.other.seat.id p.1.board m.0 m.1,
    )

pub join_seat-requires : goal.join_seat-requires
join_seat-requires g c =
    let t = c.args.table.now in
    let p = seats_front g.C.Parcel.edge_of g.C.Parcel.key_of t.table_id t.key c.pop-in-loop-other.new.self.items c.in-Some.other
    (subst (λ l. AreSeats g.C.Parcel.edge_of g.C.Parcel.key_of t.table_id t.key l) c.in-Some.ensures.items c.loop-other.invariant.seats) in (
      c.loop-other.invariant.name,
      c.load.ensures.0 ∙ p.1.name,
      c.load.ensures.2.1,
      c.requires.words,
      whole_joins graph_wires g.C.Parcel.edge_of g.C.Parcel.key_of t.key c.loop-other.all.id c.load.new.seat.id c.loop-other.all.me.0
          c.load.new.seat.me.0 c.loop-other.invariant.board,
    )

pub loop-other-preserved : goal.loop-other-preserved
loop-other-preserved g c =
    let t = c.args.table.now in let inv = c.loop-other.invariant in
    let p = seats_front g.C.Parcel.edge_of g.C.Parcel.key_of t.table_id t.key c.pop-in-loop-other.new.self.items c.in-Some.other
    (subst (λ l. AreSeats g.C.Parcel.edge_of g.C.Parcel.key_of t.table_id t.key l) c.in-Some.ensures.items inv.seats) in record {
      name = c.join_seat.ensures.0 ∙ inv.name;
      board = ap (λ m. m.0.board) c.join_seat.ensures.2 ∙ inv.board;
      seats = p.0;
      lists = λ f. let a = ap (λ m. done_by f m.0) c.join_seat.ensures.2 in
          let b = total_append f c.loop-other.all.me.0.deeds c.load.new.seat.me.0.deeds in let d = ap (λ v. done_by f v) c.load.ensures.2.0 in
          let r = told_snoc f c.pop-in-loop-other.new.self.items c.in-Some.other c.loop-other.seats.items c.in-Some.ensures.items in
          let i = inv.lists f in omega arith;
      numbers = λ k. let a = ap (λ m. times k m.0.numbers) c.join_seat.ensures.2 in
          let b = total_append (λ y. bit (y == k)) c.loop-other.all.me.0.numbers c.load.new.seat.me.0.numbers in
          let d = ap (λ v. times k v.numbers) c.load.ensures.2.0 in
          let r = having_snoc k c.pop-in-loop-other.new.self.items c.in-Some.other c.loop-other.seats.items c.in-Some.ensures.items in
          let i = inv.numbers k in omega arith;
    }
