use Rattle.std.proofs.Common.{Some, ◌∙◌, ap}
use Rattle.fv_eval_patterns.specs.declared.long_patterns.Task.TheVariants.{Try, Note}
use Rattle.fv_eval_patterns.proofs.lemmas.LongPatterns.{miss_next, task_taken}
use Rattle.fv_eval_patterns.proofs.long_patterns.note_misses.Goals as goal

pub loop-task-preserved-in-Continue-1 : goal.loop-task-preserved-in-Continue-1
loop-task-preserved-in-Continue-1 c = λ p a whole recalls misses.
    let old = c.loop-task.invariant p a whole recalls misses in
    let off = task_taken {t = Note c.in-Note.pair} c.pop.new.self.items c.pop.ensures.items (c.in-Some.is ∙ ap (λ t. Some t) c.in-Note.is) in
    let next = miss_next p a whole off old.1 in
    (c.remember.ensures p a old.0 next.0, next.1)

pub returns-in_err-remember-in-Note : goal.returns-in_err-remember-in-Note
returns-in_err-remember-in-Note c = λ p a whole recalls misses.
    let old = c.loop-task.invariant p a whole recalls misses in
    let off = task_taken {t = Note c.in-Note.pair} c.pop.new.self.items c.pop.ensures.items (c.in-Some.is ∙ ap (λ t. Some t) c.in-Note.is) in
    c.remember.ensures p a old.0 (miss_next p a whole off old.1).0

pub loop-task-preserved : goal.loop-task-preserved
loop-task-preserved c = λ p a whole recalls misses.
    let old = c.loop-task.invariant p a whole recalls misses in
    let off = task_taken {t = Try c.in-Try.field-0} c.pop.new.self.items c.pop.ensures.items (c.in-Some.is ∙ ap (λ t. Some t) c.in-Try.is) in
    (old.0, miss_next p a whole off old.1)

pub returns : goal.returns
returns c = λ p a whole recalls misses. (c.loop-task.invariant p a whole recalls misses).0
