-- The numbers of loops: components that have a lane, counted from below.
use Rattle.std.specs.Prelude.{◌≡◌, ◌↔◌, ℕ, zero, suc, ◌+◌, ◌<◌, ◌≤◌, List, [], ◌∷◌, length, Bool, true, if◌then◌else◌}
use Rattle.fv_components.specs.headline.Reach.{Links, at, Reaches}
use Rattle.fv_split_lanes.specs.inner.Homes.{bit_at}

-- how many of the bits before a place are true
abbrev pub rank_of : List Bool → ℕ → ℕ
rank_of [] c = 0
rank_of (b ∷ bs) zero = 0
rank_of (b ∷ bs) (suc c) = (if b then 1 else 0) + rank_of bs c

-- the component has a marked signal
pub record HasMarked (numbers : List ℕ) (marked : List Bool) (c : ℕ) : Type 0 where
  pub signal : ℕ
  pub within : signal < length numbers
  pub is_marked : bit_at marked signal ≡ true
  pub number : at numbers signal ≡ c

-- just the components with a marked signal are met
pub record AreMet (numbers : List ℕ) (marked met : List Bool) : Type 0 where
  pub long : length met ≡ length numbers
  pub all : (s : ℕ) → s < length numbers → bit_at marked s ≡ true → bit_at met (at numbers s) ≡ true
  pub only : (c : ℕ) → bit_at met c ≡ true → HasMarked numbers marked c

-- The loops of the components: as many as the last number says.
pub record AreRanks (numbers : List ℕ) (marked : List Bool) (ranks : List ℕ) : Type 0 where
  pub long : length ranks ≡ length numbers + 1
  -- each marked signal has a loop, marked signals of one loop are of one component, and loops stand in the components' order
  pub below : (s : ℕ) → s < length numbers → bit_at marked s ≡ true → at ranks (at numbers s) < at ranks (length numbers)
  pub apart : (a b : ℕ) → a < length numbers → b < length numbers → bit_at marked a ≡ true → bit_at marked b ≡ true →
      at ranks (at numbers a) ≡ at ranks (at numbers b) → at numbers a ≡ at numbers b
  pub order : (a b : ℕ) → a < length numbers → b < length numbers → at numbers b ≤ at numbers a → at ranks (at numbers b) ≤ at ranks (at numbers a)
  -- each loop has a marked signal
  pub some : (j : ℕ) → j < at ranks (length numbers) → (s : ℕ) × (s < length numbers) × (bit_at marked s ≡ true) × (at ranks (at numbers s) ≡ j)

-- Marked signals have one loop exactly where each reaches the other, and what one reaches has no greater loop.
pub record AreLoops (next : Links) (n : ℕ) (marked : List Bool) (owner : ℕ → ℕ) (loops : ℕ) : Type 0 where
  pub below : (s : ℕ) → s < n → bit_at marked s ≡ true → owner s < loops
  pub together : (a b : ℕ) → a < n → b < n → bit_at marked a ≡ true → bit_at marked b ≡ true → (owner a ≡ owner b) ↔ (Reaches next a b × Reaches next b a)
  pub order : (a b : ℕ) → a < n → b < n → Reaches next a b → owner b ≤ owner a
  pub some : (j : ℕ) → j < loops → (s : ℕ) × (s < n) × (bit_at marked s ≡ true) × (owner s ≡ j)
