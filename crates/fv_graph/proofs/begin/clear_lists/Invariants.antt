use Rattle.std.proofs.Common.{◌≡◌, ℕ, ◌<◌, [], get_or, vec_len}
use Rattle.fv_graph.specs.Kept.{owed_of, owed_rooms}
use Rattle.fv_graph.proofs.begin.clear_lists.Given as goal

abbrev pub invariant-loop-w : goal.invariant-loop-w
invariant-loop-w l = ((v : ℕ) → v < l.w → get_or (owed_of l.lists.items) v [] ≡ []) × (owed_rooms l.lists.items ≡ owed_rooms l.initial.lists.items)
    × (vec_len l.lists ≡ vec_len l.initial.lists)
