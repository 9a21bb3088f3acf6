use Rattle.std.proofs.Common.{◌<◌, length, drop, sym, ap, ◌∙◌, subst, All}
use Rattle.fv_split.specs.inner.ToldReads.{view_of}
use Rattle.fv_split.proofs.TellLemmas.{length_steps}
use Rattle.fv_split.proofs.told_reads.ToldReads.steps.Goals as goal

pub step-requires-clause-owners : goal.step-requires-clause-owners
step-requires-clause-owners c =
    let owners = c.args.owners.now in
    let j = c.args.reader in
    let long =
    sym (length_steps owners j (view_of c.args.self.now) c.args.steps.now) ∙ ap (λ t. length t.last) (sym c.loop-step.invariant)
    ∙ length_steps owners j (view_of c.loop-step.self) (drop c.loop-step.step-index c.args.steps.now) in
    subst (λ n. All (λ k. k < n) owners) long c.requires.owners
