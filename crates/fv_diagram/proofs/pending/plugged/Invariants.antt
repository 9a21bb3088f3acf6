use Rattle.std.proofs.Common.{◌≡◌, drop}
use Rattle.fv_diagram.specs.inner.Pending.{slots_of}
use Rattle.fv_diagram.proofs.pending.plugged.Given as goal

abbrev pub invariant-loop-i : goal.invariant-loop-i
invariant-loop-i g l = slots_of l.free l.plugs.items l.slot ≡ slots_of l.free (drop l.i l.plugs.items) l.slot
