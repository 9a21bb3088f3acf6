use Rattle.std.proofs.Common.{◌≡◌, ◌<◌, List, [], ℤ, Vec, Global, length, get_or, false, sym, ap, ◌∙◌, arith, below_more}
use Rattle.std.proofs.lemmas.List.{length-map, get_or-map}
use Rattle.std.proofs.lemmas.List.Sums.{position_or_len_is}
use Rattle.fv_share.specs.Drafts.{lists_in, same_list}
use Rattle.fv_share.proofs.builder.place_of.Goals as goal

abbrev numbers : Vec ℤ Global → List ℤ
numbers row = row.items

pub returns-then-eq : goal.returns-then-eq
returns-then-eq c =
    let xs = c.args.tables.now in
    let i = c.loop-i.i in
    let l : i < length xs = c.loop-i-test.true in
    let long : length (lists_in xs) ≡ length xs = length-map xs numbers in
    let at : get_or (lists_in xs) i [] ≡ c.as_slice.result.now =
    get_or-map numbers xs i c.index-tables-i.result [] l ∙ ap numbers (sym c.index-tables-i.is) ∙ sym c.as_slice.ensures.value in
    sym (position_or_len_is (same_list c.args.values.now) (lists_in xs) i [] (omega (arith, l, long)) c.loop-i.invariant
    (λ m. ap (same_list c.args.values.now) at ∙ sym c.eq.ensures ∙ c.if-eq.true))

pub loop-i-preserved : goal.loop-i-preserved
loop-i-preserved c =
    let xs = c.args.tables.now in
    let i = c.loop-i.i in
    let l : i < length xs = c.loop-i-test.true in
    let at : get_or (lists_in xs) i [] ≡ c.as_slice.result.now =
    get_or-map numbers xs i c.index-tables-i.result [] l ∙ ap numbers (sym c.index-tables-i.is) ∙ sym c.as_slice.ensures.value in
    below_more (λ k. same_list c.args.values.now (get_or (lists_in xs) k []) ≡ false) i c.loop-i.invariant
    (ap (same_list c.args.values.now) at ∙ sym c.eq.ensures ∙ c.if-eq.false)

pub returns : goal.returns
returns c =
    let xs = c.args.tables.now in
    let long : length (lists_in xs) ≡ length xs = length-map xs numbers in
    let t = c.loop-i-test.false in
    sym (position_or_len_is (same_list c.args.values.now) (lists_in xs) (length xs) [] (omega (arith, long)) (λ k l. c.loop-i.invariant k (omega (arith, l, t)))
    (λ m. absurd (omega (arith, m, long))))
