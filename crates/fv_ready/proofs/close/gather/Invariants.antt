use Rattle.std.proofs.Common.{vec_len}
use Rattle.fv_ready.proofs.Emptying.{IsGathering}
use Rattle.fv_ready.proofs.close.gather.Given as goal

abbrev pub invariant-loop-other : goal.invariant-loop-other
invariant-loop-other g l =
    IsGathering g.C.Parcel.edge_of g.C.Parcel.key_of l.table.table_id l.table.key l.all.table_id l.all.me.0 l.fn.seats.items l.seats.items

abbrev pub decreases-loop-other : goal.decreases-loop-other
decreases-loop-other g l = vec_len l.seats
