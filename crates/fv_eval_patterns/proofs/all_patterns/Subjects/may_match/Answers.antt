use Rattle.std.proofs.Common.{Some, length, refl, sym, ap, subst, ◌∙◌}
use Rattle.std.proofs.lemmas.Option.{slice_get_read}
use Rattle.fv_diagram.specs.Arena.{Arena}
use Rattle.fv_eval_patterns.specs.declared.value_patterns.Pair.{Pair}
use Rattle.fv_eval_patterns.specs.Patterns.{Refuses}
use Rattle.fv_eval_patterns.specs.Trials.{Says}
use Rattle.fv_eval_patterns.proofs.lemmas.LongPatterns.{patterns_miss}
use Rattle.fv_eval_patterns.proofs.all_patterns.Subjects.may_match.Goals as goal

pub returns-then-not-branch-clause-misses : goal.returns-then-not-branch-clause-misses
returns-then-not-branch-clause-misses c = λ said w vs bs same shown.
    let p = c.args.self.now.tree.now in
    let xs = c.args.patterns.now in
    let us = c.args.self.now.values.now in
    let x = c.index-patterns-i.result in
    let u = c.index-values-i.result in
    let d = c.in-Diagram.diagram in
    let pair : Pair = record { pattern = x; diagram = d } in
    let misses = subst (λ b. Says p c.args.diagrams.now b pair) c.if-not-branch.true c.in_ok-pair_may_match.ensures.says in
    patterns_miss p w xs us vs c.loop-i.i x d (slice_get_read xs (length xs) c.loop-i.i x refl c.loop-i-test.true c.index-patterns-i.is)
    (slice_get_read us (length us) c.loop-i.i u refl c.if-i-values.false c.index-values-i.is ∙ ap (λ v. Some v) c.in-Diagram.is) shown
    (subst (λ (a : Arena). Refuses p a pair) (sym same) misses.1) bs
