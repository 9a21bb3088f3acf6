use Rattle.std.proofs.lemmas.Result.{IfOk-weaker}
use Rattle.fv_base.specs.headline.Lists.{at}
use Rattle.fv_simplify.proofs.Parts.{themselves_fold}
use Rattle.fv_simplify.proofs.folded.images.Goals as goal

pub returns-else-folds : goal.returns-else-folds
returns-else-folds c = IfOk-weaker c.themselves.result _ _ (λ v h. themselves_fold c.args.graph.now (at v.items) h) c.themselves.ensures
