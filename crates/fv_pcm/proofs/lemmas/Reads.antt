-- What is known of an input that ends within the samples that were read.
use Rattle.std.proofs.Common.{◌≡◌, ℕ, ◌*◌, ◌/◌, ◌<◌, ◌++◌, List, length, ap, ◌∙◌, ℤ}
use Rattle.std.specs.Prelude.{IsTrue}
use Rattle.std.proofs.lemmas.List.{append-nil}
use Rattle.fv_base.specs.declared.role.Role.TheVariants.{Input}
use Rattle.fv_outside.specs.headline.Desk.{DeskState}
use Rattle.fv_pcm.specs.declared.coding.Coding.{Coding}
use Rattle.fv_pcm.specs.Reads.{HasRead}

-- all that was left of it was taken
pub all_taken : {c : Coding} {bits n : ℕ} {samples : List ℤ} {a b : DeskState} → HasRead c bits n samples a b → n < length samples * (bits / 8) → IsTrue a.tells
    → length (a.left Input) ≡ n
all_taken r l t = ap length (r.takes.taken t ∙ ap (λ (xs : List ℕ). r.bytes ++ xs) (r.short l t) ∙ append-nil r.bytes) ∙ r.long
