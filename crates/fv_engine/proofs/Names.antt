-- Codes that name only what is there.
use Rattle.std.proofs.Common.{◌≡◌, ℕ, ◌<◌, List, refl, get_or, All}
use Rattle.fv_loopcode.specs.declared.step.Step.{Step}
use Rattle.fv_loopcode.specs.declared.step.Step.TheVariants as step
use Rattle.fv_loopcode.specs.headline.Code.{NamesHeld, NamesInput}
use Rattle.fv_loopcode.specs.Code.{IsWithin}
use Rattle.fv_loopcode.proofs.lemmas.Named.{names_held_at, names_input_at}

-- each step reads held values and channels that are there
module _ (held channels : ℕ) where
  within_one : (s : Step) → ((k : ℕ) → s ≡ step.Held k → k < held) → ((i : ℕ) → s ≡ step.Input i → i < channels) → IsWithin held channels s
  within_one (step.Held k) h i = h k refl
  within_one (step.Input k) h i = i k refl
  within_one _ h i = tt

  pub names_within : (steps : List Step) → ((k : ℕ) → NamesHeld steps k → k < held) → ((i : ℕ) → NamesInput steps i → i < channels)
      → All (IsWithin held channels) steps
  names_within steps h i p d l =
      within_one (get_or steps p d) (λ k e. h k (names_held_at steps p k d l e)) (λ c e. i c (names_input_at steps p c d l e))
