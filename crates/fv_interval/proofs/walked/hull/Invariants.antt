use Rattle.std.proofs.Common.{◌≡◌, ◌≤◌, drop}
use Rattle.fv_interval.specs.headline.WireSpans.{hull_of, hull_with}
use Rattle.fv_interval.proofs.walked.hull.Given as goal

abbrev pub invariant-loop-i : goal.invariant-loop-i
invariant-loop-i l = (hull_with l.hull (drop l.i l.values) ≡ hull_of l.values) × (1 ≤ l.i)
