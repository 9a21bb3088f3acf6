use Rattle.std.proofs.Common.{◌≡◌, ◌∙◌, [], ap, rules, reverse, arith, SFits, w32, to_z-of_z, Some}
use Rattle.std.proofs.lemmas.Grind.{common_steps}
use Rattle.fv_diagram_numbers.proofs.Waiting.{ended, front}
use Rattle.fv_diagram_numbers.proofs.timeless.value_of.Goals as goal

pub returns : goal.returns
returns c =
    let f : SFits w32 c.index.result.now = search rules in
    let e : c.loop-task.work.tasks.items ≡ [] = first_of (search rules, grind (arith, common_steps)) in
    ap Some (to_z-of_z f ∙ front c.loop-task.work.numbers.items c.index.result.now c.loop-task.invariant.some (search rules))
    ∙ ended c.args.diagrams.now (reverse c.loop-task.work.tasks.items) c.loop-task.work.numbers.items c.args.root c.requires.closed c.requires.one
    (ap reverse e) c.loop-task.invariant
