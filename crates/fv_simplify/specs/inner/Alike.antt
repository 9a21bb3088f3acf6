-- What is tested of one signal.
use Rattle.std.specs.Prelude.{◌≡◌, ℕ, ◌≤◌}
use Rattle.fv_signal.specs.headline.Value.{Graph}
use Rattle.fv_analysis.specs.headline.Stands.{node}
use Rattle.fv_simplify.specs.Folding.{reading}

-- the signal's image is no later one, and reads what the signal reads
abbrev pub IsAlike : Graph → (image : ℕ → ℕ) → (s : ℕ) → Type 0
IsAlike g image s = (image s ≤ s) × (reading g image image (node g (image s)) ≡ reading g image image (node g s))
