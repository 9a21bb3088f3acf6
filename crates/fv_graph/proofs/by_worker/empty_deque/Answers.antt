use Rattle.std.proofs.Common.{set, ap, ◌∙◌, arith}
use Rattle.std.specs.VecDeque.{deque_capacity}
use Rattle.fv_graph.proofs.lemmas.Places.{map_set, map_same}
use Rattle.fv_graph.proofs.by_worker.empty_deque.Goals as goal

pub returns-clause-deque : goal.returns-clause-deque
returns-clause-deque c = map_set (λ d. d.items) c.args.deques.now.items c.args.w c.clear.new.self ∙ ap (set _ c.args.w) c.clear.ensures.items

pub returns-clause-rooms : goal.returns-clause-rooms
returns-clause-rooms c = let o = c.args.deques.now.ok.0 in
    map_same (λ d. deque_capacity d) c.args.deques.now.items c.args.w c.clear.new.self c.index_mut-deque.result.now
    (omega arith) c.index_mut-deque.ensures.value c.clear.ensures.capacity
