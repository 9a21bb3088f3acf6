use Rattle.std.proofs.Common.{◌≡◌}
use Rattle.fv_interval.specs.inner.SpanHooks.{noted_ones}
use Rattle.fv_interval.proofs.walked.Walked.note_ones.Given as goal

abbrev pub invariant-loop : goal.invariant-loop
invariant-loop l = l.self ≡ noted_ones l.fn.self l.counter
