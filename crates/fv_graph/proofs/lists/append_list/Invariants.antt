use Rattle.std.proofs.Common.{◌≡◌, ◌+◌, ◌∷◌, ◌++◌, map, take}
use Rattle.fv_graph.proofs.lists.append_list.Given as goal

abbrev pub invariant-loop-pair : goal.invariant-loop-pair
invariant-loop-pair l = l.edges.items ≡ l.fn.edges.items ++ l.chain ∷ map (λ k. l.base + k) (take l.pair-index l.pairs)
