use Rattle.std.proofs.Common.{◌≡◌, ◌-◌, ◌≤◌, length}
use Rattle.std.specs.Prelude.{vec_len}
use Rattle.fv_outside.specs.headline.Desk.{KeepsFaults}
use Rattle.fv_outside.specs.Desk.{Takes}
use Rattle.fv_outside.proofs.transfer.read_up_to.Given as goal

-- the bytes so far were taken
abbrev pub invariant-chunks : goal.invariant-chunks
invariant-chunks g l =
    let state = g.D.Desk.state in
    record {
      taken : Takes l.role l.bytes.items (state l.fn.desk) (state l.desk);
      steady : KeepsFaults (state l.fn.desk) (state l.desk);
      count : length l.bytes.items ≤ l.count;
      chunk : vec_len l.chunk ≡ 65536;
    }

abbrev pub decreases-chunks : goal.decreases-chunks
decreases-chunks g l = l.count - length l.bytes.items
