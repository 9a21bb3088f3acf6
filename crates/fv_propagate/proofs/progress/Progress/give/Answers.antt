use Rattle.std.proofs.Common.{◌∷◌, [], sym, subst}
use Rattle.fv_share.specs.Drafts.{Draft}
use Rattle.fv_propagate.specs.inner.Progress.{Progress, IsProgress, AreNested}
use Rattle.fv_propagate.specs.inner.Inside.{progress_of}
use Rattle.fv_propagate.proofs.Kept.{given_keeps_progress}
use Rattle.fv_propagate.proofs.progress.Progress.give.Goals as goal

pub invariant_of-self-2 : goal.invariant_of-self-2
invariant_of-self-2 c =
    let s = progress_of c.self.inside in
    subst (λ (d : Draft). IsProgress (record s { draft = d })) (sym c.in_ok-close_group.ensures.ok)
    (given_keeps_progress s c.args.group (c.args.member ∷ [])
    (subst (λ (p : Progress). AreNested c.args.group p.feedbacks) (sym c.self.view_is) c.requires.inner)
    c.self.invariant)
