use Rattle.std.proofs.Common.{length, get_or, arith, ap}
use Rattle.fv_components.specs.declared.search.Mark.TheVariants.{New}
use Rattle.fv_components.proofs.search.Search.numbers.Goals as goal

pub unreachable-requires : goal.unreachable-requires
unreachable-requires c =
    let e = ap (λ ms. get_or ms c.loop-mark.mark-index New) c.deref-mark-items.ensures.value in
    let l = ap length c.deref-mark-items.ensures.value in
    let h = c.requires c.loop-mark.mark-index (omega arith) in
    let is = c.in-New.is in
    let k = h.1 in
    cc

pub unreachable-requires-in-Open : goal.unreachable-requires-in-Open
unreachable-requires-in-Open c =
    let e = ap (λ ms. get_or ms c.loop-mark.mark-index New) c.deref-mark-items.ensures.value in
    let l = ap length c.deref-mark-items.ensures.value in
    let h = c.requires c.loop-mark.mark-index (omega arith) in
    let is = c.in-Open.is in
    let k = h.1 in
    cc
