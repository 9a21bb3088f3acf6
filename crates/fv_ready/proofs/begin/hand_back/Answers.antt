use Rattle.std.proofs.Common.{length, ◌++◌, reverse, ap, sym, ◌∙◌, arith}
use Rattle.fv_ready.proofs.lemmas.Moving.{takes_some, takes_none, back_some, none_of}
use Rattle.fv_ready.proofs.begin.hand_back.Goals as goal

pub push_reserved-requires : goal.push_reserved-requires
push_reserved-requires g c = let t = takes_some c.loop-slot.slots.items c.pop.new.self.items c.in-Some.slot c.in-Some-slot.parcel
    c.in-Some.ensures.items c.in-Some-slot.is in let i = c.loop-slot.invariant.1 in omega (arith, t.1)

pub loop-slot-preserved-in-Some-slot : goal.loop-slot-preserved-in-Some-slot
loop-slot-preserved-in-Some-slot g c = let t = takes_some c.loop-slot.slots.items c.pop.new.self.items c.in-Some.slot c.in-Some-slot.parcel
    c.in-Some.ensures.items c.in-Some-slot.is in let i = c.loop-slot.invariant.1 in
    let p = c.push_reserved.ensures in (
      back_some _ c.pop.new.self.items c.loop-slot.slots.items c.in-Some-slot.parcel c.loop-slot.entries.items _ t.0 p.items c.loop-slot.invariant.0,
      (let l = p.len in let k = p.capacity in omega (arith, t.1)),
    )

pub loop-slot-preserved : goal.loop-slot-preserved
loop-slot-preserved g c = let t = takes_none c.loop-slot.slots.items c.pop.new.self.items c.in-Some.slot c.in-Some.ensures.items
    (none_of c.in-Some.slot c.in_default-slot.not-Some) in (
      ap (λ l. l ++ reverse c.loop-slot.entries.items) (sym t) ∙ c.loop-slot.invariant.0,
      (let i = c.loop-slot.invariant.1 in
          let l = ap length t in omega arith),
    )
