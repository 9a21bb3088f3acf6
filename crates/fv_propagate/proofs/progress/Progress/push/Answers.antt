use Rattle.std.proofs.Common.{sym, ap, subst}
use Rattle.fv_propagate.specs.inner.Progress.{Progress, AreNested}
use Rattle.fv_propagate.specs.inner.Inside.{progress_of}
use Rattle.fv_propagate.proofs.Kept.{opened_is_progress}
use Rattle.fv_share.specs.Drafts.{IsPending, BacksWithin}
use Rattle.fv_propagate.proofs.progress.Progress.push.Goals as goal

pub invariant_of-self-2 : goal.invariant_of-self-2
invariant_of-self-2 c =
    let s = progress_of c.self.inside in
    let f = c.args.feedback in
    let is = sym c.self.view_is in
    opened_is_progress s _ f (ap (λ fs. let p : Progress = record s { feedbacks = fs } in p) c.in_ok-push_front.ensures.items) c.self.invariant
    (subst (λ (p : Progress). IsPending p.draft f.group) is c.requires.pending)
    (subst (λ (p : Progress). BacksWithin p.draft f.group f.count) is c.requires.backs)
    (subst (λ (p : Progress). AreNested f.group p.feedbacks) is c.requires.nested)
