use Rattle.std.proofs.Common.{◌≡◌, ◌+◌, ◌-◌, ◌*◌, ◌^◌, ◌≤◌, ◌++◌, length}
use Rattle.std.specs.Prelude.{IfSome}
use Rattle.fv_base.specs.declared.role.Role.TheVariants.{Input}
use Rattle.fv_wav.specs.headline.Reading.{wave}
use Rattle.fv_wav.specs.Stopping.{Passes, IsFormat, walk_from}
use Rattle.fv_wav.proofs.chunks.read_head_behind.Given as goal

-- the reading of the whole file is that of the chunks that are left
abbrev pub invariant-chunks : goal.invariant-chunks
invariant-chunks g l =
    let state = g.D.Desk.state in
    record {
      room : l.walk.room ≤ 4096;
      low : 12 ≤ l.walk.place;
      place : l.walk.place ≤ 12 + (4096 - l.walk.room) * (2 ^ 32 + 8);
      seen : IfSome l.walk.seen IsFormat;
      passes : Passes (l.walk.place - length l.begun) (wave (l.begun ++ (state l.fn.desk).left Input) ≡ walk_from l.walk ((state l.desk).left Input))
          (state l.fn.desk) (state l.desk);
    }

abbrev pub decreases-chunks : goal.decreases-chunks
decreases-chunks g l = l.walk.room
