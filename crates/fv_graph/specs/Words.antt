-- The numbers that pass a test, by recursion (this project's profile).
use Rattle.std.specs.Prelude.{ℕ, zero, suc, Bool, cond, List, [], ◌∷◌}

-- the n numbers from `from` on that pass, in order
abbrev pub passing : (ℕ → Bool) → ℕ → ℕ → List ℕ
passing p from zero = []
passing p from (suc n) = cond (p from) (from ∷ passing p (suc from) n) (passing p (suc from) n)
