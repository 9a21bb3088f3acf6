-- How long a lane is (this project's profile).
use Rattle.std.specs.Prelude.{ℕ, bit_and, ◌+◌, ◌%◌, ◌≤◌, ◌<◌, ◌≡◌, ◌⊎◌}
use Rattle.std.specs.Int.{IsNextPowerOfTwo}

-- the longest history that is copied to the front of its lane when a block begins
abbrev pub copied_history : ℕ
copied_history = 16

-- a copied history and a block fill the lane; a longer history and a block lie in a ring, the next power of two cells long
abbrev pub IsLaneLength : (history block cells : ℕ) → Type 0
IsLaneLength h b m = (h ≤ copied_history → m ≡ h + b) × (copied_history < h → IsNextPowerOfTwo (h + b) m)

-- `& mask` is the rest by mask + 1, which is the lane's length where it is a ring, and else more than it
abbrev pub IsMask : (history cells mask : ℕ) → Type 0
IsMask h m mask = ((x : ℕ) → bit_and x mask ≡ x % (mask + 1)) × (h ≤ copied_history → m ≤ mask) × (copied_history < h → m ≡ mask + 1)

-- r is the cell x of a ring of m cells, x being less than two turns
abbrev pub Turned : (cells x r : ℕ) → Type 0
Turned m x r = ((r ≡ x) × (x < m)) ⊎ (r + m ≡ x)
