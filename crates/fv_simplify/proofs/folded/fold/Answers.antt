use Rattle.std.proofs.Common.{sym, subst}
use Rattle.std.proofs.lemmas.Result.{IfOk-weaker}
use Rattle.fv_base.specs.headline.Lists.{at}
use Rattle.fv_simplify.specs.Folding.{IsFolding}
use Rattle.fv_simplify.specs.Folded.{IsFoldedOf}
use Rattle.fv_simplify.specs.Kept.{KeepsAll}
use Rattle.fv_simplify.proofs.lemmas.Kept.{keeps_all}
use Rattle.fv_simplify.proofs.folded.fold.Goals as goal

pub returns-clause-folded : goal.returns-clause-folded
returns-clause-folded c =
    let g = c.args.graph.now in
    let folding = subst (λ xs. IsFolding g (at xs)) (sym c.deref.ensures.value) c.in_ok-images.ensures in
    IfOk-weaker c.redirect.result _ (IsFoldedOf g) (λ h e. record { image = at c.deref.result.now; folding = folding; is = e }) c.redirect.ensures

pub returns-clause-keeps : goal.returns-clause-keeps
returns-clause-keeps c =
    let g = c.args.graph.now in
    IfOk-weaker c.redirect.result (IsFoldedOf g) (KeepsAll g)
    (λ h f. subst (KeepsAll g) (sym f.is) (keeps_all g f.image c.outputs-outputs.ensures.graph f.folding)) (returns-clause-folded c)
