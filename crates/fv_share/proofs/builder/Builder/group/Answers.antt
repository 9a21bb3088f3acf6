use Rattle.std.proofs.Common.{ℕ, sym, subst, arith}
use Rattle.std.proofs.lemmas.Grind.{common_steps}
use Rattle.fv_share.specs.Drafts.{Draft, IsDraft, IsPending, BacksWithin}
use Rattle.fv_share.proofs.lemmas.Kept.{fresh_group, pending_group}
use Rattle.fv_share.proofs.builder.Builder.group.Goals as goal

pub returns-clause-ok : goal.returns-clause-ok
returns-clause-ok c = grind (arith, common_steps)

pub returns-clause-pending : goal.returns-clause-pending
returns-clause-pending c =
    subst (λ (r : ℕ × Draft). IsPending r.1 r.0) (sym (returns-clause-ok c)) (pending_group c.args.self.now (subst IsDraft c.self.view_is c.self.invariant))

pub returns-clause-fresh : goal.returns-clause-fresh
returns-clause-fresh c =
    subst (λ (r : ℕ × Draft). BacksWithin r.1 r.0 0) (sym (returns-clause-ok c)) (fresh_group c.args.self.now (subst IsDraft c.self.view_is c.self.invariant))
