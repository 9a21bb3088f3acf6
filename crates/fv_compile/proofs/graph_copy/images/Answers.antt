use Rattle.std.proofs.Common.{◌≡◌, ◌<◌, ◌+◌, ℕ, ℤ, List, [], length, get_or, sym, ap, ◌∙◌, subst, arith, false}
use Rattle.fv_base.specs.headline.Lists.{at}
use Rattle.fv_analysis.specs.headline.Stands.{node}
use Rattle.fv_compile.specs.inner.Copied.{IsUnderWay, copy_of}
use Rattle.fv_compile.proofs.Images.{one_more}
use Rattle.fv_compile.proofs.graph_copy.images.Goals as goal

pub image-requires-clause-open : goal.image-requires-clause-open
image-requires-clause-open c =
    let h = c.loop.invariant in
    let first = c.args.offsets.groups in
    λ k l. let q = c.requires.open k l in
    (subst (λ (gs : List (List ℕ)). first + k < length gs) (sym h.groups) q.0, ap (λ cs. get_or cs (first + k) false) h.closed ∙ q.1)

pub image-requires-clause-tables : goal.image-requires-clause-tables
image-requires-clause-tables c = λ t l.
    ap (λ (ts : List (List ℤ)). get_or ts (c.args.offsets.tables + t) []) c.loop.invariant.tables ∙ c.requires.tables t l

pub loop-preserved : goal.loop-preserved
loop-preserved c =
    let g = c.args.graph.now in
    let o = c.args.offsets in
    let n = c.loop.counter in
    let images = c.loop.images.items in
    let h = c.loop.invariant in
    let here : n < length g.signals = omega arith in
    let new = c.image.new.builder in
    let put : (c.in_ok-id.id, new) ≡ copy_of g (at images) o c.loop.builder (node g (length images)) =
    subst (λ (xs : List ℕ). (c.in_ok-id.id, new) ≡ copy_of g (at xs) o c.loop.builder (node g (length xs))) c.deref.ensures.value c.in_ok-id.ensures in
    subst (IsUnderWay g o (n + 1) c.args.builder.now new) (sym c.in_ok-push.ensures.items)
    (one_more g o n c.args.builder.now c.loop.builder images h here c.in_ok-id.id new
    (put ∙ ap (λ k. copy_of g (at images) o c.loop.builder (node g k)) h.long))
