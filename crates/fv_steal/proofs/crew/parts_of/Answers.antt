use Rattle.std.proofs.Common.{◌≡◌, ◌+◌, ◌≤◌, ap, length, length-append, [], ◌∷◌, arith, sym, subst}
use Rattle.fv_steal.specs.inner.Assembled.{AreParts}
use Rattle.fv_steal.specs.declared.part.Part.{Part}
use Rattle.fv_steal.proofs.Assembling.{popped_take, part_more}
use Rattle.fv_steal.proofs.crew.parts_of.Goals as goal

pub loop-deque-preserved : goal.loop-deque-preserved
loop-deque-preserved g c = let v = c.loop-deque.invariant in let k = c.in_default-pop.ensures.cases in let k0 = k.0 in let l = v.long in
    let o = c.loop-deque.all.ok.0 in let i = ap length c.in-Some.ensures.items in let a = length-append c.pop.new.self.items (c.in-Some.deque ∷ []) in
    absurd (omega arith)

pub loop-deque-preserved-in-Continue-branch-3 : goal.loop-deque-preserved-in-Continue-branch-3
loop-deque-preserved-in-Continue-branch-3 g c = let v = c.loop-deque.invariant in
    let k = length c.pop.new.self.items in let m = length c.loop-deque.deques.items in
    let is : m ≡ k + 1 = let i = ap length c.in-Some.ensures.items in let a = length-append c.pop.new.self.items (c.in-Some.deque ∷ []) in omega arith in
    let low : m ≤ length c.args.all.items = let r = c.requires.long in let o = c.args.deques.ok.0 in let p = c.args.all.ok.0 in let l = v.low in omega arith in
    let d = popped_take c.args.deques.items c.loop-deque.deques.items c.pop.new.self.items c.in-Some.deque m k v.deques c.in-Some.ensures.items is v.low in
    let h = popped_take c.args.all.items c.loop-deque.all.items c.pop-in-Some.new.self.items c.in-Some-pop.victims m k
    v.all c.in-Some-pop.ensures.items is low in
    let part : Part g.row.C.Denot = record {
      deque = c.in-Some.deque;
      victims = c.in-Some-pop.victims;
      parcels = c.in_ok-parcels.parcels;
      lines = c.in_ok-lines.lines;
    } in
    record {
      deques = d.0;
      all = h.0;
      long = let i = ap length c.in-Some-pop.ensures.items in let a = length-append c.pop-in-Some.new.self.items (c.in-Some-pop.victims ∷ []) in
          let l = v.long in omega arith;
      low = let l = v.low in omega arith;
      parts = subst (λ ps. AreParts c.args.room c.args.most c.args.deques.items c.args.all.items k ps) (sym c.in_ok-push.ensures.items)
          (part_more c.args.room c.args.most c.args.deques.items c.args.all.items m k c.loop-deque.parts.items part is v.parts (record {
            deque = d.1;
            holds = h.1;
            no_lines = c.in_ok-lines.ensures.items;
            lines_room = let q = c.in_ok-lines.ensures.capacity in omega arith;
            no_parcels = c.in_ok-parcels.ensures.items;
            parcels_room = let q = c.in_ok-parcels.ensures.capacity in omega arith;
          }));
    }
