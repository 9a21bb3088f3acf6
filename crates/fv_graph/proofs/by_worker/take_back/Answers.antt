use Rattle.std.proofs.Common.{◌-◌, [], take, sym, ap, ◌∙◌, arith}
use Rattle.std.specs.VecDeque.{deque_capacity}
use Rattle.fv_graph.specs.Ends.{but_back}
use Rattle.fv_graph.proofs.lemmas.Places.{map_at, map_same, but_back_take}
use Rattle.fv_graph.proofs.by_worker.take_back.Goals as goal

pub returns-clause-deque : goal.returns-clause-deque
returns-clause-deque c = let o = c.args.deques.now.ok.0 in
    map_at (λ d. d.items) (but_back) c.args.deques.now.items c.args.w c.pop_back.new.self c.index_mut-deque.result.now []
    (omega arith) c.index_mut-deque.ensures.value (c.pop_back.ensures.rest
    ∙ ap (λ k. take (k - 1) c.index_mut-deque.result.now.items) c.index_mut-deque.result.now.ok.0 ∙ sym (but_back_take c.index_mut-deque.result.now.items))

pub returns-clause-rooms : goal.returns-clause-rooms
returns-clause-rooms c = let o = c.args.deques.now.ok.0 in
    map_same (λ d. deque_capacity d) c.args.deques.now.items c.args.w c.pop_back.new.self c.index_mut-deque.result.now
    (omega arith) c.index_mut-deque.ensures.value c.pop_back.ensures.capacity
