use Rattle.std.proofs.Common.{◌∙◌, get_or, length, ap, arith}
use Rattle.fv_eval_lookup.proofs.Wanting.{index_at}
use Rattle.fv_eval_lookup.proofs.lookup.Definitions.index.Goals as goal

pub returns-then-is_same : goal.returns-then-is_same
returns-then-is_same c =
    let i = c.in_ok-place.place in
    let x = c.in_ok-found.found.now in
    let same = c.deref-2.ensures.value in
    let got = c.in_ok-found.ensures.lookup in
    let many = ap length same in
    index_at c.args.self.now c.self.inside.tree.now c.self.inside.indexes.items i x c.args.ruled.now c.self.view_is c.self.invariant.1
    (omega (arith, got.3.0, many)) (got.1 ∙ ap (λ ys. get_or ys i x) same) (c.is_same.ensures c.if-is_same.true)
