use Rattle.std.proofs.Common.{◌++◌, ◌∷◌, [], arith}
use Rattle.std.specs.VecDeque.{deque_capacity}
use Rattle.fv_graph.proofs.lemmas.Places.{map_at, map_same}
use Rattle.fv_graph.proofs.by_worker.put_back.Goals as goal

pub returns-clause-deque : goal.returns-clause-deque
returns-clause-deque c = let o = c.args.deques.now.ok.0 in
    map_at (λ d. d.items) (λ l. l ++ c.args.task ∷ []) c.args.deques.now.items c.args.w c.push_back_reserved.new.self c.index_mut-deque.result.now []
    (omega arith) c.index_mut-deque.ensures.value (c.push_back_reserved.ensures.items)

pub returns-clause-rooms : goal.returns-clause-rooms
returns-clause-rooms c = let o = c.args.deques.now.ok.0 in
    map_same (λ d. deque_capacity d) c.args.deques.now.items c.args.w c.push_back_reserved.new.self c.index_mut-deque.result.now
    (omega arith) c.index_mut-deque.ensures.value c.push_back_reserved.ensures.capacity
