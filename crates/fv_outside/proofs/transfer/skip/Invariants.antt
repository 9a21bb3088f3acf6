use Rattle.std.proofs.Common.{◌≡◌, ◌-◌, ◌≤◌, ℕ, List, length}
use Rattle.fv_outside.specs.headline.Desk.{KeepsFaults}
use Rattle.fv_outside.specs.Desk.{Takes}
use Rattle.fv_outside.proofs.transfer.skip.Given as goal

-- the next bytes were taken, piece by piece, up to the count
abbrev pub invariant-pieces : goal.invariant-pieces
invariant-pieces g l =
    let state = g.D.Desk.state in
    record {
      within : l.gone ≤ l.count;
      piece : length l.piece ≡ 4096;
      taken : (bytes : List ℕ) × (length bytes ≡ l.gone) × Takes l.role bytes (state l.fn.desk) (state l.desk);
      steady : KeepsFaults (state l.fn.desk) (state l.desk);
    }

abbrev pub decreases-pieces : goal.decreases-pieces
decreases-pieces g l = l.count - l.gone
