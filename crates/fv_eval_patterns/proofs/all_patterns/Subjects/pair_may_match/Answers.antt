use Rattle.std.proofs.Common.{rules}
use Rattle.std.proofs.Common.{arith}
use Rattle.std.proofs.lemmas.Grind.{common_steps}
use Rattle.std.proofs.Common.{Some, reverse, ◌∙◌, sym, ap, subst}
use Rattle.fv_eval_patterns.specs.declared.long_patterns.Task.TheVariants.{Try}
use Rattle.fv_eval_patterns.specs.Trials.{AllMiss}
use Rattle.fv_eval_patterns.proofs.lemmas.LongPatterns.{attempts_begin, attempts_go_on, leads_next, may_not, may_split}
use Rattle.fv_eval_patterns.proofs.lemmas.LongPatterns.{task_taken, whole_misses}
use Rattle.fv_eval_patterns.proofs.all_patterns.Subjects.pair_may_match.Goals as goal

pub loop-task-init : goal.loop-task-init
loop-task-init c =
    attempts_begin c.args.self.now.tree.now c.args.diagrams.now c.explore.new.numbers c.explore.new.self c.args.whole c.new-tasks.result.items
    c.push.new.self.items
    c.in_ok-explore.ensures.known c.in_ok-explore.ensures.recalls c.requires.whole c.new-tasks.ensures.items c.in_ok-push.ensures.items

pub attempt-requires-clause-pair : goal.attempt-requires-clause-pair
attempt-requires-clause-pair c =
    (leads_next c.loop-task.invariant (task_taken {t = Try c.in-Try.pair} c.pop.new.self.items c.pop.ensures.items
    (c.in-Some.is ∙ ap (λ t. Some t) c.in-Try.is))).0

pub returns-in_err-note_misses-in-Try-clause-recalls : goal.returns-in_err-note_misses-in-Try-clause-recalls
returns-in_err-note_misses-in-Try-clause-recalls c =
    let p = c.args.self.now.tree.now in
    let a = c.args.diagrams.now in
    let x = c.in-Try.pair in
    let next =
    leads_next c.loop-task.invariant (task_taken {t = Try x} c.pop.new.self.items c.pop.ensures.items (c.in-Some.is ∙ ap (λ t. Some t) c.in-Try.is)) in
    let refuses = may_not p a x c.pop.new.self.items c.attempt.new.tasks.items c.in_ok-attempt-in-Try.field-0 c.if-not-branch.true
    c.in_ok-attempt-in-Try.ensures.splits in
    c.note_misses.ensures p a c.args.whole c.loop-task.invariant.recalls
    (subst (λ ts. AllMiss p a c.args.whole (reverse ts)) (sym (c.in_ok-attempt-in-Try.ensures.same c.if-not-branch.true)) (next.1 refuses))

pub returns-then-not-branch-clause-recalls : goal.returns-then-not-branch-clause-recalls
returns-then-not-branch-clause-recalls c =
    let p = c.args.self.now.tree.now in
    let a = c.args.diagrams.now in
    let x = c.in-Try.pair in
    let next =
    leads_next c.loop-task.invariant (task_taken {t = Try x} c.pop.new.self.items c.pop.ensures.items (c.in-Some.is ∙ ap (λ t. Some t) c.in-Try.is)) in
    let refuses = may_not p a x c.pop.new.self.items c.attempt.new.tasks.items c.in_ok-attempt-in-Try.field-0 c.if-not-branch.true
    c.in_ok-attempt-in-Try.ensures.splits in
    c.note_misses.ensures p a c.args.whole c.loop-task.invariant.recalls
    (subst (λ ts. AllMiss p a c.args.whole (reverse ts)) (sym (c.in_ok-attempt-in-Try.ensures.same c.if-not-branch.true)) (next.1 refuses))

pub returns-then-not-branch-clause-says : goal.returns-then-not-branch-clause-says
returns-then-not-branch-clause-says c =
    let p = c.args.self.now.tree.now in
    let a = c.args.diagrams.now in
    let x = c.in-Try.pair in
    let next =
    leads_next c.loop-task.invariant (task_taken {t = Try x} c.pop.new.self.items c.pop.ensures.items (c.in-Some.is ∙ ap (λ t. Some t) c.in-Try.is)) in
    let refuses = may_not p a x c.pop.new.self.items c.attempt.new.tasks.items c.in_ok-attempt-in-Try.field-0 c.if-not-branch.true
    c.in_ok-attempt-in-Try.ensures.splits in
    whole_misses p a c.args.whole (reverse c.pop.new.self.items) (next.1 refuses)

pub loop-task-preserved : goal.loop-task-preserved
loop-task-preserved c =
    let p = c.args.self.now.tree.now in
    let a = c.args.diagrams.now in
    let x = c.in-Try.pair in
    let split = may_split p a x c.pop.new.self.items c.attempt.new.tasks.items c.in_ok-attempt-in-Try.field-0 c.if-not-branch.false
    c.in_ok-attempt-in-Try.ensures.splits in
    attempts_go_on c.attempt.new.numbers c.attempt.new.tasks.items c.loop-task.invariant
    (task_taken {t = Try x} c.pop.new.self.items c.pop.ensures.items (c.in-Some.is ∙ ap (λ t. Some t) c.in-Try.is)) c.in_ok-attempt-in-Try.ensures.known split

pub loop-task-preserved-in_ok-remember-in-Note : goal.loop-task-preserved-in_ok-remember-in-Note
loop-task-preserved-in_ok-remember-in-Note c = grind (arith, common_steps)

pub returns-in_err-remember-in-Note-clause-recalls : goal.returns-in_err-remember-in-Note-clause-recalls
returns-in_err-remember-in-Note-clause-recalls c = search rules
