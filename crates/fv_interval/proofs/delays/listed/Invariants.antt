use Rattle.std.proofs.Common.{◌≡◌, ◌≤◌, ◌*◌, take, sum}
use Rattle.fv_interval.specs.headline.Delays.{amounts}
use Rattle.fv_interval.specs.Delays.{AreDelays}
use Rattle.fv_interval.proofs.delays.listed.Given as goal

abbrev pub invariant-loop-i : goal.invariant-loop-i
invariant-loop-i l =
    AreDelays (take l.i l.spans) × (l.delays.items ≡ amounts (take l.i l.spans)) × (l.total ≡ sum l.delays.items) × (l.total ≤ 1048575 * l.i)
