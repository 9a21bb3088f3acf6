use Rattle.std.proofs.Common.{◌≡◌, ℕ, ◌+◌, ◌-◌, ◌<◌, ◌≤◌, List, length, [], ◌++◌, Some, Option, vec_capacity, ap, sym, ◌∙◌, refl, subst, arith}
use Rattle.std.specs.Global.{Vec}
use Rattle.std.specs.Option.{option_to_list}
use Rattle.fv_ready.specs.Wired.{graph_wires}
use Rattle.fv_ready.specs.Begun.{AreNewSeats, AreRoomy}
use Rattle.fv_ready.proofs.Dealing.{deals_left, deals_right, deals_last, new_seat, splits_last, seats_snoc, last_roomy}
use Rattle.fv_ready.proofs.begin.deal.Goals as goal

-- the list that is popped is roomy, and so are those that are left
popped : (room : ℕ) (old new : List (Vec ℕ)) (o : Option (Vec ℕ)) (v : Vec ℕ) → old ≡ new ++ option_to_list o → o ≡ Some v → AreRoomy room
    old → AreRoomy room new × ((v.items ≡ []) × (room ≤ vec_capacity v))
popped room old new o v e is h = last_roomy room new v (subst (AreRoomy room) (e ∙ ap (λ o. new ++ option_to_list o) is) h)

pub split_seat-others-requires : goal.split_seat-others-requires
split_seat-others-requires g c = (
  c.loop-i.invariant.name,
  c.requires.words,
  splits_last graph_wires g.C.Parcel.edge_of g.C.Parcel.key_of c.args.table.now.key c.loop-i.last.id c.loop-i.last.me (c.loop-i._i - 1)
      (c.args.workers - (c.loop-i._i - 1)) c.loop-i.invariant.last (let t = c.loop-i-test.true in let q = c.loop-i.invariant.count in omega arith),
)

pub loop-i-preserved : goal.loop-i-preserved
loop-i-preserved g c =
    let i = c.loop-i._i in let inv = c.loop-i.invariant in let t = c.loop-i-test.true in let q = inv.count in let k = c.loop-i.seats.ok.0 in
    let p = c.push_reserved.ensures.len in
    let id = c.args.table.now.table_id in let a = c.args.table.now.key in
    let more : 0 < c.args.workers - (i - 1) = omega arith in record {
      name = c.split_seat-others.ensures.3 ∙ inv.name;
      last = deals_right a c.loop-i.last.me c.split_seat-others.result.me (i - 1) (c.args.workers - (i - 1)) (i + 1 - 1)
          (c.args.workers - (i + 1 - 1)) inv.last more (omega arith) (omega arith) c.split_seat-others.ensures.4;
      count = omega arith;
      seats = λ room h. let r = inv.seats room h in let l = popped room c.loop-i.lists.items c.pop.new.self.items c.pop.result c.unwrap-edges.result
          c.pop.ensures.items c.unwrap-edges.ensures r.0 in (
            l.0,
            subst (λ l. AreNewSeats id a room 0 l) (sym c.push_reserved.ensures.items)
                (seats_snoc id a room 0 c.loop-i.seats.items _ r.1
                (new_seat a id room (0 + length c.loop-i.seats.items) _ (c.split_seat-others.ensures.0 ∙ inv.name)
                (deals_left a c.loop-i.last.me c.split_seat-others.new.seat.me (i - 1) (c.args.workers - (i - 1))
                (0 + length c.loop-i.seats.items) inv.last more (omega arith) c.split_seat-others.ensures.2) refl l.1)),
          );
      room = let r = c.push_reserved.ensures.capacity in let s = inv.room in omega arith;
      below = omega arith;
      lists = let r = inv.lists in let s = c.pop.ensures.len in let u = ap (λ o. length (option_to_list o)) c.unwrap-edges.ensures in omega arith;
    }

pub returns-clause-seats : goal.returns-clause-seats
returns-clause-seats g c =
    let i = c.loop-i._i in let inv = c.loop-i.invariant in let q = inv.count in let k = c.loop-i.seats.ok.0 in let t = c.loop-i-test.false in
    let id = c.args.table.now.table_id in let a = c.args.table.now.key in
    λ room h. let r = inv.seats room h in let l = popped room c.loop-i.lists.items c.pop-2.new.self.items c.pop-2.result
    c.unwrap-edges-2.result c.pop-2.ensures.items c.unwrap-edges-2.ensures r.0 in
    subst (λ l. AreNewSeats id a room 0 l) (sym c.push_reserved-2.ensures.items)
    (seats_snoc id a room 0 c.loop-i.seats.items _ r.1
    (new_seat a id room (0 + length c.loop-i.seats.items) _ inv.name
    (deals_last a c.loop-i.last.me (i - 1) (c.args.workers - (i - 1)) (0 + length c.loop-i.seats.items) inv.last (let r = inv.below in
    let s = c.requires.workers.1 in omega arith) (omega arith)) refl l.1))
