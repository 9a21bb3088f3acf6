use Rattle.std.proofs.Common.{◌≡◌, ◌≤◌, drop, length, All}
use Rattle.fv_diagram.specs.Hooks.{Keeps}
use Rattle.fv_diagram.specs.Walked.{added, summed}
use Rattle.fv_diagram.proofs.pending.add_up.Given as goal

abbrev pub invariant-loop-i : goal.invariant-loop-i
invariant-loop-i g l =
    ((d : _) → added g.S.Signals.hooks d l.count l.i (drop l.i l.terms) l.sums.items l.signals ≡ summed g.S.Signals.hooks d l.count l.terms l.fn.signals)
    × (length l.sums.items ≡ l.count) × All (g.S.Signals.is_wire l.signals) l.sums.items
    × Keeps (g.S.Signals.is_wire l.fn.signals) (g.S.Signals.is_wire l.signals) × (g.S.Signals.fed l.signals ≡ g.S.Signals.fed l.fn.signals) × (l.count ≤ l.i)
