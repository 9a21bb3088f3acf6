use Rattle.std.proofs.Common.{◌≡◌, ℕ, ◌<◌, [], get_or, vec_len}
use Rattle.fv_graph.specs.Kept.{deques_of, rooms_of}
use Rattle.fv_graph.proofs.begin.clear_deques.Given as goal

abbrev pub invariant-loop-w : goal.invariant-loop-w
invariant-loop-w l = ((v : ℕ) → v < l.w → get_or (deques_of l.deques.items) v [] ≡ []) × (rooms_of l.deques.items ≡ rooms_of l.initial.deques.items)
    × (vec_len l.deques ≡ vec_len l.initial.deques)
