use Rattle.std.proofs.Common.{set, ap, ◌∙◌, arith}
use Rattle.std.specs.Vec.{vec_capacity}
use Rattle.fv_graph.proofs.lemmas.Places.{map_set, map_same}
use Rattle.fv_graph.proofs.by_worker.empty_list.Goals as goal

pub returns-clause-owed : goal.returns-clause-owed
returns-clause-owed c = map_set (λ v. v.items) c.args.owes.now.items c.args.w c.clear.new.self ∙ ap (set _ c.args.w) c.clear.ensures.items

pub returns-clause-rooms : goal.returns-clause-rooms
returns-clause-rooms c = let o = c.args.owes.now.ok.0 in
    map_same (λ v. vec_capacity v) c.args.owes.now.items c.args.w c.clear.new.self c.index_mut-owed.result.now
    (omega arith) c.index_mut-owed.ensures.value c.clear.ensures.capacity
