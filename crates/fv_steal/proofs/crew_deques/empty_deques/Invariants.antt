use Rattle.std.proofs.Common.{◌≡◌, [], replicate}
use Rattle.fv_steal.specs.inner.Made.{puts_of, rests_of}
use Rattle.fv_steal.proofs.crew_deques.empty_deques.Given as goal

abbrev pub invariant-loop-w : goal.invariant-loop-w
invariant-loop-w l = (puts_of l.deques.items ≡ replicate l._w []) × (rests_of l.deques.items ≡ replicate l._w (l.room, 0, []))
