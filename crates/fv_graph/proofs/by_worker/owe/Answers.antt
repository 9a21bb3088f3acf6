use Rattle.std.proofs.Common.{◌++◌, [], length, ap, arith}
use Rattle.std.specs.Vec.{vec_capacity}
use Rattle.fv_graph.proofs.lemmas.Places.{map_at, map_same, get_map}
use Rattle.fv_graph.proofs.by_worker.owe.Goals as goal

pub append-requires : goal.append-requires
append-requires c = let o = c.args.owes.now.ok.0 in let r = c.requires.room in let old = c.index_mut-owed.result.now in
    let a = ap length (get_map (λ v. v.items) c.args.owes.now.items c.args.w old [] (omega arith)) in
    let b = get_map (λ v. vec_capacity v) c.args.owes.now.items c.args.w old 0 (omega arith) in
    let p = ap (λ v. length v.items) c.index_mut-owed.ensures.value in let q = ap (λ v. vec_capacity v) c.index_mut-owed.ensures.value in
    let k = old.ok.0 in omega arith

pub returns-clause-owed : goal.returns-clause-owed
returns-clause-owed c = let o = c.args.owes.now.ok.0 in
    map_at (λ v. v.items) (λ l. l ++ c.args.edges.now) c.args.owes.now.items c.args.w c.append.new.owed c.index_mut-owed.result.now []
    (omega arith) c.index_mut-owed.ensures.value c.append.ensures.items

pub returns-clause-rooms : goal.returns-clause-rooms
returns-clause-rooms c = let o = c.args.owes.now.ok.0 in
    map_same (λ v. vec_capacity v) c.args.owes.now.items c.args.w c.append.new.owed c.index_mut-owed.result.now
    (omega arith) c.index_mut-owed.ensures.value c.append.ensures.room
