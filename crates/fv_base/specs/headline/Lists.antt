-- Words on lists (this project's profile).
use Rattle.std.specs.Prelude.{◌≡◌, ℕ, zero, suc, List, [], ◌∷◌, ◌++◌, slice_index_or}

-- ys begins with xs
pub record IsPrefixOf {A : Type 0} (xs ys : List A) : Type 0 where
  pub rest : List A
  pub is : ys ≡ xs ++ rest

-- f 0, f 1, .. , f (n - 1)
abbrev pub table : {A : Type 0} → ℕ → (ℕ → A) → List A
table zero f = []
table (suc n) f = table n f ++ f n ∷ []

-- number i of a list of numbers, 0 past its end
abbrev pub at : List ℕ → ℕ → ℕ
at xs i = slice_index_or xs i 0
