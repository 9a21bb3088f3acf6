use Rattle.std.proofs.Common.{◌≡◌, ◌+◌, ◌≤◌, ap, length, length-append, [], ◌∷◌, arith, sym, subst, ◌∙◌}
use Rattle.fv_steal.specs.inner.Assembled.{AreFrom}
use Rattle.fv_steal.proofs.Assembling.{popped_take, worker_more}
use Rattle.fv_steal.proofs.crew.assemble.Goals as goal

pub loop-part-preserved : goal.loop-part-preserved
loop-part-preserved g c = let v = c.loop-part.invariant in let k = c.in_default-pop.ensures.cases in let k0 = k.0 in let l = v.long in
    let o = c.loop-part.seats.ok.0 in let i = ap length c.in-Some.ensures.items in let a = length-append c.pop.new.self.items (c.in-Some.part ∷ []) in
    absurd (omega arith)

pub loop-part-preserved-in-Some-pop : goal.loop-part-preserved-in-Some-pop
loop-part-preserved-in-Some-pop g c = let v = c.loop-part.invariant in
    let k = length c.pop.new.self.items in let m = length c.loop-part.parts.items in
    let is : m ≡ k + 1 = let i = ap length c.in-Some.ensures.items in let a = length-append c.pop.new.self.items (c.in-Some.part ∷ []) in omega arith in
    let low : m ≤ length c.args.seats.items = let r = c.requires.long in let o = c.args.parts.ok.0 in let p = c.args.seats.ok.0 in let l = v.low in
    omega arith in
    let d = popped_take c.args.parts.items c.loop-part.parts.items c.pop.new.self.items c.in-Some.part m k v.parts c.in-Some.ensures.items is v.low in
    let h = popped_take c.args.seats.items c.loop-part.seats.items c.pop-in-Some.new.self.items c.in-Some-pop.seat m k
    v.seats c.in-Some-pop.ensures.items is low in
    record {
      parts = d.0;
      seats = h.0;
      long = let i = ap length c.in-Some-pop.ensures.items in let a = length-append c.pop-in-Some.new.self.items (c.in-Some-pop.seat ∷ []) in
          let l = v.long in omega arith;
      low = let l = v.low in omega arith;
      room = c.push_reserved.ensures.capacity ∙ v.room;
      workers = subst (λ ws. AreFrom c.args.parts.items c.args.seats.items k ws) (sym c.push_reserved.ensures.items)
          (worker_more c.args.parts.items c.args.seats.items m k c.loop-part.workers.items _ is v.workers
          (let e = c.len-number.ensures in let o = c.loop-part.workers.ok.0 in omega arith) h.1 d.1);
    }
