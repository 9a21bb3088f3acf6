use Rattle.std.proofs.Common.{◌≡◌, ◌+◌, ◌≤◌, ◌∷◌, ◌++◌, map, replicate, vec_len, vec_capacity}
use Rattle.fv_graph.specs.Graph.{net_of}
use Rattle.fv_graph.specs.Core.{numbers}
use Rattle.fv_graph.specs.Net.{need_count}
use Rattle.fv_ready.proofs.begin.words_of.Given as goal

abbrev pub invariant-loop-t : goal.invariant-loop-t
invariant-loop-t l = (l.words.items ≡ 0 ∷ map (need_count (net_of l.tasks.tasks)) (numbers l.t)) × (vec_len l.words ≡ 1 + l.t) ×
    (1 + l.n + l.n ≤ vec_capacity l.words)

abbrev pub invariant-loop-i : goal.invariant-loop-i
invariant-loop-i l = (l.words.items ≡ 0 ∷ (map (need_count (net_of l.tasks.tasks)) (numbers l.n) ++ replicate l._i 0)) ×
    (vec_len l.words ≡ 1 + l.n + l._i) × (1 + l.n + l.n ≤ vec_capacity l.words)
