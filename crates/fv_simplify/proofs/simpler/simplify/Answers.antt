use Rattle.std.proofs.lemmas.Result.{IfOk-weaker}
use Rattle.fv_simplify.specs.Reducible.{IsSimpler}
use Rattle.fv_simplify.specs.Kept.{KeepsAll}
use Rattle.fv_simplify.specs.inner.Once.{Folds, Joins}
use Rattle.fv_simplify.proofs.Through.{simpler_through}
use Rattle.fv_simplify.proofs.simpler.simplify.Goals as goal

pub returns-clause-simpler : goal.returns-clause-simpler
returns-clause-simpler c =
    let g = c.args.graph.now in
    let f = c.in_ok-first.first in
    let e = c.in_ok-one.one in
    let a : Folds g f = c.in_ok-first.ensures.folds in
    let k : KeepsAll f e = c.in_ok-one.ensures.keeps in
    IfOk-weaker c.joined.result (Joins e) (IsSimpler g) (λ h j. simpler_through g f e h a k j) c.joined.ensures.joins

pub returns-clause-within : goal.returns-clause-within
returns-clause-within c =
    IfOk-weaker c.joined.result (IsSimpler c.args.graph.now) _
    (λ h s X k small stays. s.within X k (record { frames = small.frames; controls = small.controls }) stays) (returns-clause-simpler c)
