-- The ends of a list, and what is left of it (this project's profile).
use Rattle.std.specs.Prelude.{ℕ, Bool, true, false, cond, List, [], ◌∷◌, ◌==◌, Option, None, Some}

-- the list without the first x
abbrev pub without : ℕ → List ℕ → List ℕ
without x [] = []
without x (y ∷ ys) = cond (y == x) ys (y ∷ without x ys)

-- nothing stands in the list
abbrev pub is_empty : {X : Type 0} → List X → Bool
is_empty [] = true
is_empty (x ∷ xs) = false

-- t stands at the front
abbrev pub front_is : List ℕ → ℕ → Bool
front_is [] t = false
front_is (x ∷ xs) t = x == t

-- all but the front
abbrev pub but_front : List ℕ → List ℕ
but_front [] = []
but_front (x ∷ xs) = xs

-- t stands at the back
abbrev pub back_is : List ℕ → ℕ → Bool
back_is [] t = false
back_is (x ∷ xs) t = cond (is_empty xs) (x == t) (back_is xs t)

-- all but the back
abbrev pub but_back : List ℕ → List ℕ
but_back [] = []
but_back (x ∷ xs) = cond (is_empty xs) [] (x ∷ but_back xs)

-- what stands at the front
abbrev pub front_of : List ℕ → Option ℕ
front_of [] = None
front_of (x ∷ xs) = Some x

-- what stands at the back
abbrev pub back_of : List ℕ → Option ℕ
back_of [] = None
back_of (x ∷ xs) = cond (is_empty xs) (Some x) (back_of xs)
