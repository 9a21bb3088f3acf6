use Rattle.std.proofs.Common.{◌≡◌, ℕ, ◌-◌, ◌<◌, List, [], ◌∷◌, ap, sym, ◌∙◌, subst, arith}
use Rattle.atomic_table.specs.Table.{rest}
use Rattle.fv_graph.specs.TasksBeside.{times}
use Rattle.fv_ready.specs.inner.Spun.{spun}
use Rattle.fv_ready.proofs.Found.{at_place, placed, in_front, held_is, long_items, back_with}
use Rattle.fv_ready.proofs.board.Board.exchange.Goals as goal

pub place_of-place-requires : goal.place_of-place-requires
place_of-place-requires g c = subst (λ l. 0 < times c.args.edge l) (c.requires.mirror ∙ sym c.as_slice.ensures.value) c.requires.edge

pub overflow_sub-behind : goal.overflow_sub-behind
overflow_sub-behind g c = let s = c.args.seat.now in
    let at = at_place s _ c.args.edge c.place_of-place.result c.requires.mirror c.as_slice.ensures.value c.place_of-place.ensures in
    let l = long_items at in let k = s.edges.ok.0 in omega arith

pub exchange-found-requires : goal.exchange-found-requires
exchange-found-requires g c = let s = c.args.seat.now in
    let at = at_place s _ c.args.edge c.place_of-place.result c.requires.mirror c.as_slice.ensures.value c.place_of-place.ensures in
    let q = in_front at c.spin.new.seat.me.1 (ap (λ m. m.1) c.spin.ensures.2) in
    let p = placed at in
    (c.spin.ensures.0 ∙ c.requires.name, (p.x, q ∙ ap (λ l. (c.args.edge, p.x) ∷ l) (sym (ap rest q))))

abbrev head_of : {X : Type 0} → X → List (ℕ × X) → X
head_of d [] = d
head_of d (x ∷ xs) = x.1

same_head : {X : Type 0} (e : ℕ) (x y : X) (xs ys : List (ℕ × X)) → (e, x) ∷ xs ≡ (e, y) ∷ ys → x ≡ y
same_head e x y xs ys is = ap (head_of x) is

pub returns-clause-found : goal.returns-clause-found
returns-clause-found g c = let s = c.args.seat.now in
    let at = at_place s _ c.args.edge c.place_of-place.result c.requires.mirror c.as_slice.ensures.value c.place_of-place.ensures in
    let q = in_front at c.spin.new.seat.me.1 (ap (λ m. m.1) c.spin.ensures.2) in
    same_head c.args.edge _ _ _ _ (sym c.exchange-found.ensures.2 ∙ q) ∙ sym (held_is at)

pub returns-clause-seat : goal.returns-clause-seat
returns-clause-seat g c = let s = c.args.seat.now in
    let at = at_place s _ c.args.edge c.place_of-place.result c.requires.mirror c.as_slice.ensures.value c.place_of-place.ensures in
    let q = in_front at c.spin.new.seat.me.1 (ap (λ m. m.1) c.spin.ensures.2) in
    let t = ap (λ m. m.1) c.exchange-found.ensures.3 ∙ ap (λ l. (c.args.edge, c.args.new) ∷ rest l) q in
    let v = ap (λ m. m.0) c.exchange-found.ensures.3 ∙ ap (λ m. m.0) c.spin.ensures.2 in
    let k = s.edges.ok.0 in
    let w = back_with at (c.len.result - c.place_of-place.result) c.args.new (ap (λ n. n - c.place_of-place.result) (c.len.ensures ∙ k)) in
    c.spin-2.ensures.2 ∙ (λ i. (v i, spun (c.len.result - c.place_of-place.result) (t i))) ∙ ap (λ l. (s.seat.me.0, l)) w
