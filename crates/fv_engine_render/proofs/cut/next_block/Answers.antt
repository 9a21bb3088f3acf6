use Rattle.std.proofs.Common.{◌-◌, min, get_or, sym, ap, ◌∙◌}
use Rattle.std.proofs.lemmas.List.{get_or_default}
use Rattle.fv_control.specs.declared.script.Change.{Change}
use Rattle.fv_control.specs.Laws.{no_change}
use Rattle.fv_engine_render.proofs.Cuts.{cut_here, cut_nowhere}
use Rattle.fv_engine_render.proofs.cut.next_block.Goals as goal

pub returns-then-next-changes-clause-length : goal.returns-then-next-changes-clause-length
returns-then-next-changes-clause-length c =
    let f = c.args.frame in let cs = c.args.changes.now in let next = c.args.next in
    let x : Change = get_or cs next no_change in
    let there = c.if-next-changes.true in
    let cut = cut_here cs f next (min c.args.block (c.args.total - f)) x c.requires.next there (get_or_default cs next no_change x there) in
    c.min.ensures ∙ ap (λ d. min c.min-most.result d) c.saturating_sub.ensures ∙ ap (λ m. min m (x.frame - f)) c.min-most.ensures ∙ sym cut

pub returns-else-next-changes-clause-length : goal.returns-else-next-changes-clause-length
returns-else-next-changes-clause-length c =
    let f = c.args.frame in
    c.min-most.ensures ∙ sym (cut_nowhere c.args.changes.now f c.args.next (min c.args.block (c.args.total - f)) c.requires.next c.if-next-changes.false)
