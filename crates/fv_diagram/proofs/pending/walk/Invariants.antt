use Rattle.std.proofs.Common.{◌≡◌}
use Rattle.fv_diagram.specs.Arena.{tree_of}
use Rattle.fv_diagram.specs.Walked.{walked}
use Rattle.fv_diagram.specs.inner.Pending.{rules, stage, outcome, IsReady, weight}
use Rattle.fv_diagram.proofs.pending.walk.Given as goal

abbrev pub invariant-loop-task : goal.invariant-loop-task
invariant-loop-task g l =
    let r = rules g.S.Signals.hooks g.S.Signals.is_wire g.S.Signals.fed l.free l.diagrams in
    let p = stage l.pending.tasks.items l.pending.plugs.items l.now.items l.signals in
    IsReady r p × (outcome r p ≡ walked g.S.Signals.hooks l.free (tree_of l.diagrams l.fn.root) (λ _. l.free) l.fn.ins.items l.fn.signals)

abbrev pub decreases-loop-task : goal.decreases-loop-task
decreases-loop-task g l = weight l.diagrams l.pending.tasks.items
