use Rattle.std.proofs.Common.{[], arith}
use Rattle.std.specs.Vec.{vec_capacity}
use Rattle.fv_graph.specs.Ends.{without}
use Rattle.fv_graph.proofs.lemmas.Places.{map_at, map_same}
use Rattle.fv_graph.proofs.by_worker.forget.Goals as goal

pub returns-clause-owed : goal.returns-clause-owed
returns-clause-owed c = let o = c.args.owes.now.ok.0 in
    map_at (λ v. v.items) (without c.args.edge) c.args.owes.now.items c.args.w c.take_out.new.owed c.index_mut-owed.result.now []
    (omega arith) c.index_mut-owed.ensures.value c.take_out.ensures.items

pub returns-clause-rooms : goal.returns-clause-rooms
returns-clause-rooms c = let o = c.args.owes.now.ok.0 in
    map_same (λ v. vec_capacity v) c.args.owes.now.items c.args.w c.take_out.new.owed c.index_mut-owed.result.now
    (omega arith) c.index_mut-owed.ensures.value c.take_out.ensures.room
