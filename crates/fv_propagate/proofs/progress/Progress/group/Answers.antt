use Rattle.std.proofs.Common.{length, sym, ap, ◌∙◌, subst}
use Rattle.fv_share.specs.Drafts.{Draft}
use Rattle.fv_propagate.specs.inner.Progress.{Progress, IsProgress, AreNested, grouped}
use Rattle.fv_propagate.specs.inner.Inside.{progress_of}
use Rattle.fv_propagate.proofs.Kept.{group_keeps_progress}
use Rattle.fv_propagate.proofs.progress.Progress.group.Goals as goal

pub invariant_of-self-2 : goal.invariant_of-self-2
invariant_of-self-2 c =
    let s = progress_of c.self.inside in
    subst (λ (d : Draft). IsProgress (record s { draft = d })) (sym (ap (λ r. r.1) c.in_ok-group.ensures.ok)) (group_keeps_progress s c.self.invariant)

pub returns-clause-number : goal.returns-clause-number
returns-clause-number c = ap (λ r. r.0) c.in_ok-group.ensures.ok ∙ ap (λ (p : Progress). length p.draft.groups) c.self.view_is

pub returns-clause-grouped : goal.returns-clause-grouped
returns-clause-grouped c =
    let s = progress_of c.self.inside in
    ap (λ (d : Draft). let p : Progress = record s { draft = d } in p) (ap (λ r. r.1) c.in_ok-group.ensures.ok) ∙ ap grouped c.self.view_is

pub returns-clause-nested : goal.returns-clause-nested
returns-clause-nested c =
    subst (λ g. AreNested g c.self.inside.feedbacks.items) (sym (ap (λ r. r.0) c.in_ok-group.ensures.ok)) c.self.invariant.nested
