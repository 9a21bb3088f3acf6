use Rattle.std.proofs.Common.{◌≡◌, ◌≤◌, vec_len, vec_capacity}
use Rattle.fv_ready.specs.Begun.{AreRoomy}
use Rattle.fv_ready.proofs.begin.roomy_lists.Given as goal

abbrev pub invariant-loop-i : goal.invariant-loop-i
invariant-loop-i l = AreRoomy l.room l.lists.items × (vec_len l.lists ≡ l._i) × (l.count ≤ vec_capacity l.lists)
