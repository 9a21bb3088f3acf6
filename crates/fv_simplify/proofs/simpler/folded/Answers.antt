use Rattle.std.proofs.lemmas.Result.{IfOk-weaker}
use Rattle.fv_signal.specs.headline.Value.{AreAtMost}
use Rattle.fv_simplify.specs.Reducible.{limit}
use Rattle.fv_simplify.specs.Rebuilt.{IsMarked}
use Rattle.fv_simplify.specs.Simpler.{no_room}
use Rattle.fv_simplify.proofs.lemmas.Reaches.{short_kept}
use Rattle.fv_simplify.specs.inner.Once.{Folds}
use Rattle.fv_simplify.proofs.simpler.folded.Goals as goal

pub returns-clause-folds : goal.returns-clause-folds
returns-clause-folds c =
    IfOk-weaker c.rebuild.result _ (Folds c.args.graph.now)
    (λ h r. record { images = r.0; marks = c.deref-2.result.now; graph = c.marks.ensures.graph; rebuilt = r.1 }) c.rebuild.ensures.rebuilt

pub returns-clause-short : goal.returns-clause-short
returns-clause-short c =
    let g = c.args.graph.now in
    IfOk-weaker c.rebuild.result (Folds g) (AreAtMost limit)
    (λ h r. short_kept g h r.images no_room (IsMarked r.marks) r.graph r.rebuilt (λ x q s d most e a o. absurd cc) c.requires) (returns-clause-folds c)
