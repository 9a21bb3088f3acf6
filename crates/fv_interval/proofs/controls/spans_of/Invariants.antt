use Rattle.std.proofs.Common.{◌≡◌, take}
use Rattle.fv_interval.specs.headline.Controls.{spans_of}
use Rattle.fv_interval.proofs.controls.spans_of.Given as goal

abbrev pub invariant-loop-i : goal.invariant-loop-i
invariant-loop-i l = l.all.items ≡ spans_of (take l.i l.controls)
