use Rattle.std.proofs.Common.{◌≡◌, ◌≤◌, vec_len, vec_capacity}
use Rattle.fv_ready.proofs.lemmas.Moving.{Moved}
use Rattle.fv_ready.proofs.begin.fill.Given as goal

abbrev pub invariant-loop-parcel : goal.invariant-loop-parcel
invariant-loop-parcel g l = Moved l.initial.entries.items l.entries.items (vec_len l.initial.slots) l.slots.items
    × (vec_capacity l.entries ≡ vec_capacity l.initial.entries) × (vec_len l.slots ≡ vec_len l.initial.slots) × (vec_len l.entries ≤ vec_len l.slots)

abbrev pub decreases-loop-parcel : goal.decreases-loop-parcel
decreases-loop-parcel g l = vec_len l.entries
