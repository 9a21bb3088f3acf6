use Rattle.std.proofs.lemmas.Result.{IfOk-weaker}
use Rattle.fv_signal.specs.headline.Value.{AreAtMost}
use Rattle.fv_simplify.specs.Reducible.{limit}
use Rattle.fv_simplify.specs.Kept.{KeepsAll}
use Rattle.fv_simplify.proofs.simpler.one_of_each.Goals as goal

pub returns-clause-short : goal.returns-clause-short
returns-clause-short c = IfOk-weaker c.fold.result (KeepsAll c.args.graph.now) (AreAtMost limit) (λ h k. k.short c.requires) c.fold.ensures.keeps
