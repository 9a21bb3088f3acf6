use Rattle.std.proofs.Common.{take}
use Rattle.fv_outside.specs.headline.Desk.{KeepsFaults}
use Rattle.fv_outside.specs.Desk.{Appends, joined}
use Rattle.fv_outside.proofs.transfer.write_pieces.Given as goal

-- the pieces up to here are written
abbrev pub invariant-loop-piece : goal.invariant-loop-piece
invariant-loop-piece g l =
    let state = g.D.Desk.state in
    record {
      written : Appends l.role (joined (take l.piece-index l.pieces)) (state l.fn.desk) (state l.desk);
      steady : KeepsFaults (state l.fn.desk) (state l.desk);
    }
