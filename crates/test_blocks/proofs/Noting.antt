-- Lists of a test.
use Rattle.std.proofs.Common.{◌≡◌, ℕ, ◌<◌, List, ◌++◌, length, take, drop, get_or, ap, ◌∙◌}
use Rattle.std.proofs.Math.Seq.{take-append_seam}

-- each of these stands at its place, with this key
abbrev pub AreAt : {X : Type 0} → (X → ℕ) → (X → ℕ) → ℕ → List X → Type 0
AreAt {X} edge_of key_of key xs = (k : ℕ) (d : X) → k < length xs → (edge_of (get_or xs k d) ≡ k) × (key_of (get_or xs k d) ≡ key)

-- what a list is after a slice of all of it was written
pub written : {X : Type 0} (n : ℕ) (new old : List X) → n ≡ length new → take n (new ++ drop (length new) old) ≡ new
written n new old e = ap (λ k. take k (new ++ drop (length new) old)) e ∙ take-append_seam new (drop (length new) old)
