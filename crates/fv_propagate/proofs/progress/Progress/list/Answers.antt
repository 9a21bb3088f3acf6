use Rattle.std.proofs.Common.{sym, ap, subst}
use Rattle.fv_share.specs.Drafts.{Draft}
use Rattle.fv_propagate.specs.inner.Progress.{IsProgress}
use Rattle.fv_propagate.specs.inner.Inside.{progress_of}
use Rattle.fv_propagate.proofs.Kept.{listed_keeps_progress}
use Rattle.fv_propagate.proofs.progress.Progress.list.Goals as goal

pub invariant_of-self-2 : goal.invariant_of-self-2
invariant_of-self-2 c =
    let s = progress_of c.self.inside in
    subst (λ (d : Draft). IsProgress (record s { draft = d })) (sym (ap (λ r. r.1) c.in_ok-table.ensures.put))
    (listed_keeps_progress s c.args.values.now c.self.invariant)
