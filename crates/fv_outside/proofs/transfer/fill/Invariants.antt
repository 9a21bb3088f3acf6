use Rattle.std.proofs.Common.{◌-◌, ◌≤◌, length, take}
use Rattle.fv_outside.specs.headline.Desk.{KeepsFaults}
use Rattle.fv_outside.specs.Desk.{Takes}
use Rattle.fv_outside.proofs.transfer.fill.Given as goal

-- the front of the buffer is what was taken
abbrev pub invariant-pieces : goal.invariant-pieces
invariant-pieces g l =
    let state = g.D.Desk.state in
    record {
      within : l.at ≤ length l.to;
      taken : Takes l.role (take l.at l.to) (state l.fn.desk) (state l.desk);
      steady : KeepsFaults (state l.fn.desk) (state l.desk);
    }

abbrev pub decreases-pieces : goal.decreases-pieces
decreases-pieces g l = length l.initial.to - l.at
