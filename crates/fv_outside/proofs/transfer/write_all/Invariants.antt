use Rattle.std.proofs.Common.{◌-◌, ◌≤◌, take, length}
use Rattle.fv_outside.specs.headline.Desk.{KeepsFaults}
use Rattle.fv_outside.specs.Desk.{Appends}
use Rattle.fv_outside.proofs.transfer.write_all.Given as goal

-- the bytes up to here are written
abbrev pub invariant-pieces : goal.invariant-pieces
invariant-pieces g l =
    let state = g.D.Desk.state in
    record {
      within : l.at ≤ length l.bytes;
      written : Appends l.role (take l.at l.bytes) (state l.fn.desk) (state l.desk);
      steady : KeepsFaults (state l.fn.desk) (state l.desk);
    }

abbrev pub decreases-pieces : goal.decreases-pieces
decreases-pieces g l = length l.bytes - l.at
