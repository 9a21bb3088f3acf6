-- Rows that lie one after another (compressed sparse rows).
use Rattle.std.specs.Prelude.{ℕ, ◌≤◌, List, [], ◌∷◌, length, slice_range}

-- where a row ends: where the next one begins, or at the end of all
abbrev pub end_of : (later : List ℕ) → (all : ℕ) → ℕ
end_of [] all = all
end_of (b ∷ bs) all = b

-- the rows that begin at these places
abbrev pub cut : (starts numbers : List ℕ) → List (List ℕ)
cut [] numbers = []
cut (a ∷ bs) numbers = slice_range numbers a (end_of bs (length numbers)) ∷ cut bs numbers

-- no row ends before it begins
abbrev pub AreStarts : (starts : List ℕ) → (all : ℕ) → Type 0
AreStarts [] all = Unit {0}
AreStarts (a ∷ bs) all = (a ≤ end_of bs all) × AreStarts bs all
