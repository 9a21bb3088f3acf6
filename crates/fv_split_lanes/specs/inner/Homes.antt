-- The loop in whose code each signal is computed.
use Rattle.std.specs.Prelude.{◌≡◌, ◌⊎◌, ℕ, ◌<◌, ◌≤◌, List, [], ◌∷◌, length, slice_index_or, slice_set, Bool, true, false, if◌then◌else◌}
use Rattle.fv_components.specs.headline.Reach.{Links, at, Leads, Reaches}

-- the bit at a place
abbrev pub bit_at : List Bool → ℕ → Bool
bit_at bs s = slice_index_or bs s false

-- a signal reads lower ones
abbrev pub AreLower : Links → Type 0
AreLower reads = (s r : ℕ) → Leads reads s r → r < s

-- an inner signal has one reader at most
abbrev pub AreSingle : Links → (inner : ℕ → Bool) → Type 0
AreSingle reads inner = (q s r : ℕ) → inner r ≡ true → Leads reads q r → Leads reads s r → q ≡ s

-- the loop of a signal with a lane is below loops, and an inner signal has none
abbrev pub AreLaneless : (inner : ℕ → Bool) → (owners : List ℕ) → (loops : ℕ) → Type 0
AreLaneless inner owners loops = (s : ℕ) → inner s ≡ true → at owners s ≡ loops

-- the inner ones among some signals get a home
abbrev pub given : (inner : ℕ → Bool) → (homes : List ℕ) → List ℕ → (home : ℕ) → List ℕ
given inner homes [] home = homes
given inner homes (r ∷ rs) home = given inner (if inner r then slice_set homes r home else homes) rs home

-- The homes so far, where the signals from a place on have given theirs to what they read. A home that is not below loops is none.
pub record AreHomesFrom (reads : Links) (inner : ℕ → Bool) (owners : List ℕ) (loops from : ℕ) (homes : List ℕ) : Type 0 where
  pub long : length homes ≡ length owners
  -- a signal with a lane is at home in its loop
  pub lanes : (s : ℕ) → s < length owners → at owners s < loops → at homes s ≡ at owners s
  -- what is at home has a lane or is an inner signal
  pub inners : (s : ℕ) → s < length owners → at homes s < loops → (at owners s < loops) ⊎ (inner s ≡ true)
  -- the inner signals that it reads are at home there too
  pub closed : (s r : ℕ) → from ≤ s → s < length owners → at homes s < loops → Leads reads s r → inner r ≡ true → at homes r ≡ at homes s
  -- it is reached from a signal with a lane of that loop
  pub reached : (s : ℕ) → s < length owners → at homes s < loops → (q : ℕ) × (q < length owners) × (at owners q ≡ at homes s) × Reaches reads q s

-- the homes of all signals
abbrev pub AreHomes : Links → (inner : ℕ → Bool) → (owners : List ℕ) → (loops : ℕ) → (homes : List ℕ) → Type 0
AreHomes reads inner owners loops homes = AreHomesFrom reads inner owners loops 0 homes
