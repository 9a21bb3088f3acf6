use Rattle.std.proofs.Common.{◌≡◌}
use Rattle.fv_num.specs.headline.Frames.{table}
use Rattle.fv_num.specs.headline.Interval.{full}
use Rattle.fv_interval.proofs.walked.full_spans.Given as goal

abbrev pub invariant-loop : goal.invariant-loop
invariant-loop l = l.all.items ≡ table l.counter (λ i. full)
