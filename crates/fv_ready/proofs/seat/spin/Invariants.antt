use Rattle.std.proofs.Common.{◌≡◌}
use Rattle.fv_ready.specs.inner.Spun.{spun}
use Rattle.fv_ready.proofs.seat.spin.Given as goal

abbrev pub invariant-loop-i : goal.invariant-loop-i
invariant-loop-i g l = (l.seat.table_id ≡ l.initial.seat.table_id) × (l.seat.id ≡ l.initial.seat.id) ×
    (l.seat.me ≡ (l.initial.seat.me.0, spun l._i l.initial.seat.me.1))
