use Rattle.std.proofs.Common.{◌≡◌, ℕ, ◌<◌}
use Rattle.std.specs.Slots.{slots_items}
use mathlib.Core.Option.{some}
use lib.ListN.{get_elem?}
use Rattle.fv_ready.specs.Rule.{claim_word}
use Rattle.fv_ready.proofs.close.is_untouched.Given as goal

abbrev pub invariant-loop-t : goal.invariant-loop-t
invariant-loop-t g l = (k : ℕ) → k < l.t → get_elem? (slots_items l.closed.words) (claim_word l.tasks k) ≡ some 0
