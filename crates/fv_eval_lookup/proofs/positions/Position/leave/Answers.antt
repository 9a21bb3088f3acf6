use Rattle.std.proofs.Common.{◌≡◌, ◌∙◌, ◌<◌, length, get_or, filter, true, ap, sym, subst, arith}
use Rattle.fv_eval_lookup.specs.declared.positions.Row.{Row}
use Rattle.fv_eval_patterns.specs.Bits.{has}
use Rattle.fv_eval_lookup.specs.Positions.{HasBoth, is_for}
use Rattle.fv_eval_lookup.proofs.Wanting.{both_allow}
use Rattle.fv_eval_lookup.proofs.positions.Position.leave.Goals as goal

pub returns-then-row-key : goal.returns-then-row-key
returns-then-row-key c = λ all j r knows got may was.
    let x = c.args.self.now in
    let row : Row = c.row-item.result in
    let i = c.loop-row.row-index in
    let same = c.deref-row-items.ensures.value in
    let here : row ≡ get_or x.rows.items i row = c.row-item.is ∙ ap (λ rows. get_or rows i row) same in
    let many = ap length same in
    let l : i < length x.rows.items = omega (arith, c.loop-row-test.true, many) in
    let both : HasBoth x.free (filter (is_for c.args.key) x.wants) row.rules =
    subst (λ key. HasBoth x.free (filter (is_for key) x.wants) row.rules) c.if-row-key.true
    (subst (λ (q : Row). HasBoth x.free (filter (is_for q.key) x.wants) q.rules) (sym here) (knows.rows i row l)) in
    c.keep.ensures j (subst (λ bits. has bits j ≡ true) (sym c.loop-row.invariant) was)
    (both_allow all x.path c.args.key x.free row.rules x.wants knows.sorts both j r got may)

pub returns : goal.returns
returns c = λ all j r knows got may was.
    let x = c.args.self.now in
    c.keep-2.ensures j (subst (λ bits. has bits j ≡ true) (sym c.loop-row.invariant) was)
    (both_allow all x.path c.args.key x.free c.in_ok-left.left x.wants knows.sorts c.in_ok-left.ensures j r got may)
