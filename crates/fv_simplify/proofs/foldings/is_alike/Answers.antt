use Rattle.std.proofs.Common.{◌≡◌, ◌≤◌, ap, ◌∙◌, sym, arith}
use Rattle.fv_base.specs.headline.Lists.{at}
use Rattle.fv_share.specs.Drafts.{same}
use Rattle.fv_share.proofs.lemmas.Same.{same_equal, same_self}
use Rattle.fv_analysis.specs.headline.Stands.{node}
use Rattle.fv_simplify.specs.Folding.{reading}
use Rattle.fv_simplify.proofs.foldings.is_alike.Goals as goal

pub returns-then-number : goal.returns-then-number
returns-then-number c =
    let g = c.args.graph.now in
    let im = at c.args.images.now in
    let e : c.image_of-image.result ≡ im c.args.s = c.image_of-image.ensures in
    let first : c.read.result ≡ reading g im im (node g (im c.args.s)) = c.read.ensures ∙ ap (λ r. reading g im im (node g r)) e in
    let second : c.read-then-number.result ≡ reading g im im (node g c.args.s) = c.read-then-number.ensures in
    let below : im c.args.s ≤ c.args.s = omega (arith, e, c.if-number.true, c.number.ensures, c.number-2.ensures) in (
      λ t. (below, sym first ∙ same_equal c.read.result c.read-then-number.result (sym c.eq.ensures ∙ t) ∙ second),
      λ a. c.eq.ensures ∙ ap (same c.read.result) (second ∙ sym a.1 ∙ sym first) ∙ same_self c.read.result,
    )
