use Rattle.std.proofs.Common.{◌≡◌, ◌<◌, ℕ, [], get_or, false}
use Rattle.fv_share.specs.Drafts.{same_list, lists_in}
use Rattle.fv_share.proofs.builder.place_of.Given as goal

abbrev pub invariant-loop-i : goal.invariant-loop-i
invariant-loop-i l = (k : ℕ) → k < l.i → same_list l.values (get_or (lists_in l.tables) k []) ≡ false
