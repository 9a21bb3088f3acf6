use Rattle.std.proofs.Common.{arith}
use Rattle.fv_ready.proofs.Ends.{ended, some_seats}
use Rattle.fv_ready.proofs.close.end_table.Goals as goal

pub gather-all-requires-clause-some : goal.gather-all-requires-clause-some
gather-all-requires-clause-some g c = let o = some_seats c.args.seats.items (c.requires.all.1 0 c.requires.all.0) in let k = c.args.seats.ok.0 in omega arith

pub returns-clause-ended : goal.returns-clause-ended
returns-clause-ended g c = ended g.C.Parcel.edge_of g.C.Parcel.key_of c.args.table.shared.key c.requires.graph c.gather-all.result.id
    c.gather-all.result.me.0 _ _ c.close_with.ensures.values.2 c.args.seats.items c.gather-all.ensures.lists c.gather-all.ensures.numbers c.requires.all
