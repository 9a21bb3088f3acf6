use Rattle.std.proofs.Common.{◌≡◌, ◌∙◌, ap, sym, subst, get_or, take, drop, length, None, Some, arith}
use Rattle.fv_graph.specs.Graph.{outward}
use Rattle.fv_ready.specs.Carried.{slot_at, with_slot}
use Rattle.fv_ready.specs.Seats.{slots_of, hand_of}
use Rattle.fv_ready.specs.Boards.{about_of}
use Rattle.fv_steal.specs.Moves.{AreParcelsOf}
use Rattle.fv_steal.specs.inner.Steps.{AreFull, AreEmpty}
use Rattle.fv_steal.proofs.Boards.{edge_out, at_index, low_back, is_popped, last_empty, has_slot}
use Rattle.fv_steal.proofs.Lists.{times_at}
use Rattle.fv_steal.proofs.Parcels.{parcels_less, empty_before, full_more}
use Rattle.fv_steal.proofs.moves.hand_all.Goals as goal

pub hand-requires-clause-edge : goal.hand-requires-clause-edge
hand-requires-clause-edge g c =
    let es = outward c.args.tasks.now.tasks c.args.t in let xs = c.outward-edges.result.now in let k = c.len.result in
    let r = is_popped es c.loop-parcel.parcels.items c.pop.new.self.items c.in-Some.parcel k c.in-Some.ensures.items
    (let a = c.len.ensures in let o = c.pop.new.self.ok.0 in omega arith) c.loop-parcel.invariant.short in
    edge_out c.args.board.now c.args.tasks.now c.requires.tasks (hand_of c.loop-parcel.seat) c.args.t (c.loop-parcel.invariant.same.1 ∙ c.requires.hand)
    (get_or xs k 0) (at_index xs es k c.outward-edges.ensures (low_back xs es k c.outward-edges.ensures r.low))

pub hand-requires-clause-empty : goal.hand-requires-clause-empty
hand-requires-clause-empty g c =
    let es = outward c.args.tasks.now.tasks c.args.t in let xs = c.outward-edges.result.now in let k = c.len.result in
    let slots = slots_of c.loop-parcel.seat in
    let r = is_popped es c.loop-parcel.parcels.items c.pop.new.self.items c.in-Some.parcel k c.in-Some.ensures.items
    (let a = c.len.ensures in let o = c.pop.new.self.ok.0 in omega arith) c.loop-parcel.invariant.short in
    subst (λ l. slot_at slots (get_or l k 0) ≡ None) (sym c.outward-edges.ensures)
    (last_empty slots es k r.low (subst (λ n. AreEmpty slots (take n es)) r.long c.loop-parcel.invariant.empty))

pub hand-requires-clause-parcel : goal.hand-requires-clause-parcel
hand-requires-clause-parcel g c =
    let es = outward c.args.tasks.now.tasks c.args.t in let xs = c.outward-edges.result.now in let k = c.len.result in
    let key = g.C.Parcel.key_of (about_of c.args.board.now).sample.value in
    let r = is_popped es c.loop-parcel.parcels.items c.pop.new.self.items c.in-Some.parcel k c.in-Some.ensures.items
    (let a = c.len.ensures in let o = c.pop.new.self.ok.0 in omega arith) c.loop-parcel.invariant.short in
    let f = parcels_less g.C.Parcel.edge_of g.C.Parcel.key_of key es k c.pop.new.self.items c.loop-parcel.parcels.items
    c.in-Some.parcel r.low c.in-Some.ensures.items
    (subst (λ n. AreParcelsOf g.C.Parcel.edge_of g.C.Parcel.key_of key (take n es) c.loop-parcel.parcels.items) r.long c.loop-parcel.invariant.parcels) in
    (f.edge ∙ ap (λ l. get_or l k 0) (sym c.outward-edges.ensures), f.keyed)

pub loop-parcel-preserved : goal.loop-parcel-preserved
loop-parcel-preserved g c =
    let t = c.args.t in let tasks = c.args.tasks.now.tasks in let es = outward tasks t in let xs = c.outward-edges.result.now in let k = c.len.result in
    let key = g.C.Parcel.key_of (about_of c.args.board.now).sample.value in let v = c.loop-parcel.invariant in
    let slots = slots_of c.loop-parcel.seat in let slots' = slots_of c.hand.new.seat in
    let long' : k ≡ length c.pop.new.self.items = let a = c.len.ensures in let o = c.pop.new.self.ok.0 in omega arith in
    let r = is_popped es c.loop-parcel.parcels.items c.pop.new.self.items c.in-Some.parcel k c.in-Some.ensures.items long' v.short in
    let f = parcels_less g.C.Parcel.edge_of g.C.Parcel.key_of key es k c.pop.new.self.items c.loop-parcel.parcels.items
    c.in-Some.parcel r.low c.in-Some.ensures.items
    (subst (λ n. AreParcelsOf g.C.Parcel.edge_of g.C.Parcel.key_of key (take n es) c.loop-parcel.parcels.items) r.long v.parcels) in
    let at = c.hand.ensures.slots ∙ ap (λ l. with_slot slots (get_or l k 0) (Some c.in-Some.parcel)) c.outward-edges.ensures in
    let has = has_slot g.C.Parcel.edge_of g.C.Parcel.key_of c.args.board.now c.loop-parcel.seat c.args.tasks.now t (get_or es k 0) c.requires.tasks v.seat
    (v.same.1 ∙ c.requires.hand) (times_at es k 0 r.low) in record {
      seat = c.hand.ensures.seat;
      same = (c.hand.ensures.same.0 ∙ v.same.0, c.hand.ensures.same.1 ∙ v.same.1);
      empty = subst (λ n. AreEmpty slots' (take n es)) long' (empty_before tasks c.requires.wires t c.requires.task k slots slots' (Some c.in-Some.parcel) r.low
          (subst (λ n. AreEmpty slots (take n es)) r.long v.empty) at);
      full = subst (λ n. AreFull slots' (drop n es)) long' (full_more tasks c.requires.wires t c.requires.task k slots slots' c.in-Some.parcel r.low
          (subst (λ n. AreFull slots (drop n es)) r.long v.full) has at);
      parcels = subst (λ n. AreParcelsOf g.C.Parcel.edge_of g.C.Parcel.key_of key (take n es) c.pop.new.self.items) long' f.parcels;
      short = let l = r.low in omega arith;
      room = c.pop.ensures.capacity ∙ v.room;
    }
