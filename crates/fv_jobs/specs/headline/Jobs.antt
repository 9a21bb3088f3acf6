-- The jobs of a file: texts of programs, with lines `%%` between (this project's profile).
use Rattle.std.specs.Prelude.{ℕ, Bool, ◌==◌, List, [], ◌∷◌, ◌++◌, codes, bytes_eq, if◌then◌else◌}
use Rattle.std.specs.List.{onto_first}
use Rattle.std.specs.Io.BufRead.{strip_last}

-- the byte that ends a line
abbrev pub is_feed : ℕ → Bool
is_feed b = b == 10

-- the lines of a file, each with the byte 10 that ends it; the last may have none
abbrev pub lines_in : List ℕ → List (List ℕ)
lines_in [] = []
lines_in (b ∷ bs) = if is_feed b then (b ∷ []) ∷ lines_in bs else onto_first b (lines_in bs)

-- A line that is `%%` separates two jobs; one byte 13 at its end is allowed.
abbrev pub is_separator : List ℕ → Bool
is_separator l = bytes_eq (strip_last 13 (strip_last 10 l)) (codes "%%")

-- a line in front of the first text
abbrev pub in_front : List ℕ → List (List ℕ) → List (List ℕ)
in_front l [] = l ∷ []
in_front l (text ∷ texts) = (l ++ text) ∷ texts

-- the texts that these lines are: a separating line ends one, and belongs to none
abbrev pub jobs_of : List (List ℕ) → List (List ℕ)
jobs_of [] = [] ∷ []
jobs_of (l ∷ ls) = if is_separator l then [] ∷ jobs_of ls else in_front l (jobs_of ls)

-- The texts of a file's jobs, in order.
abbrev pub jobs_in : List ℕ → List (List ℕ)
jobs_in bytes = jobs_of (lines_in bytes)
