use Rattle.std.proofs.Common.{◌+◌, ◌∷◌, ap, ap₂, ◌∙◌}
use Rattle.fv_diagram_numbers.specs.declared.timeless.Task.TheVariants as task
use Rattle.fv_diagram_numbers.proofs.TimelessTurns.{over_two, has_room, seq_turn, par_turn, split_turn, merge_turn, so_called}
use Rattle.fv_diagram_numbers.proofs.Waiting.{three_tasks}
use Rattle.fv_diagram_numbers.proofs.timeless.visit.Goals as goal

pub returns-in_ok-put-in-Par-2 : goal.returns-in_ok-put-in-Par-2
returns-in_ok-put-in-Par-2 c =
    let d = c.in-Par in
    let arity = c.arity-first.ensures.arity in
    so_called
    (c.in_ok-put-in-Par-2.ensures.tasks ∙ ap (λ ts. task.Visit d.left c.args.from c.args.to ∷ ts) c.in_ok-put-in-Par.ensures.tasks)
    (c.put-in-Par.ensures.numbers ∙ c.put.ensures.numbers)
    (par_turn (over_two d.ensures.tree d.ensures.children c.requires.0.0)
    (ap (λ n. c.args.from + n) arity.0) (ap (λ n. c.args.to + n) arity.1) c.requires)

pub returns-in_ok-put-in-Seq-2 : goal.returns-in_ok-put-in-Seq-2
returns-in_ok-put-in-Seq-2 c =
    let d = c.in-Seq in
    let at = c.in_ok-at-in-Seq in
    so_called
    (c.in_ok-put-in-Seq-2.ensures.tasks ∙ ap (λ ts. task.Visit d.left c.args.from at.at ∷ ts) c.in_ok-put-in-Seq.ensures.tasks)
    (c.put-in-Seq-2.ensures.numbers ∙ c.put-in-Seq.ensures.numbers)
    (seq_turn (over_two d.ensures.tree d.ensures.children c.requires.0.0)
    (has_room at.ensures.place at.ensures.length c.arity-count.ensures.arity.1 c.extend.ensures.same) c.requires)

pub returns-in_ok-put-in-Split-2 : goal.returns-in_ok-put-in-Split-2
returns-in_ok-put-in-Split-2 c =
    let d = c.in-Split in
    let at = c.in_ok-at-in-Split in
    let count = c.arity-count-in-Split.ensures.arity.1 in
    let many = c.arity-many.ensures.arity.0 in
    so_called
    (three_tasks _ _ _ _ _ _ _ c.in_ok-put-in-Split-2.ensures.tasks c.in_ok-push-in-Split.ensures.items c.in_ok-put-in-Split.ensures.tasks
    (ap₂ (λ p q. task.Deal at.at p q) count many))
    (c.put-in-Split-2.ensures.numbers ∙ c.put-in-Split.ensures.numbers)
    (split_turn (over_two d.ensures.tree d.ensures.children c.requires.0.0)
    (has_room at.ensures.place at.ensures.length many c.extend-in-Split.ensures.same) c.requires)

pub returns-in_ok-put-in-Merge-2 : goal.returns-in_ok-put-in-Merge-2
returns-in_ok-put-in-Merge-2 c =
    let d = c.in-Merge in
    let at = c.in_ok-at-in-Merge in
    let count = c.arity-count-in-Merge.ensures.arity.1 in
    let many = c.arity-many-in-Merge.ensures.arity.0 in
    so_called
    (three_tasks _ _ _ _ _ _ _ c.in_ok-put-in-Merge-2.ensures.tasks c.in_ok-push-in-Merge.ensures.items c.in_ok-put-in-Merge.ensures.tasks
    (ap₂ (λ p q. task.Sum at.at p q) count many))
    (c.put-in-Merge-2.ensures.numbers ∙ c.put-in-Merge.ensures.numbers)
    (merge_turn (over_two d.ensures.tree d.ensures.children c.requires.0.0)
    (has_room at.ensures.place at.ensures.length count c.extend-in-Merge.ensures.same) c.requires)
