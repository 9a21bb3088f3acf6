-- The texts between the separating lines of a file (this project's profile).
use Rattle.std.specs.Prelude.{◌≡◌, ℕ, false, true, List, [], ◌∷◌, ◌++◌, ◌⊎◌}
use Rattle.std.specs.List.{AllByRecursion}
use Rattle.fv_jobs.specs.headline.Jobs.{lines_in, is_separator, jobs_in}

-- a text of which no line separates jobs
abbrev pub IsOneJob : List ℕ → Type 0
IsOneJob text = AllByRecursion (λ l. is_separator l ≡ false) (lines_in text)

-- it ends with the byte 10
pub record IsEnded (bytes : List ℕ) : Type 0 where
  pub front : List ℕ
  pub is : bytes ≡ front ++ 10 ∷ []

-- The file is a text of whole lines that is one job, a separating line, and a rest, in which other jobs stand.
pub record IsCut (file text rest : List ℕ) : Type 0 where
  pub line : List ℕ
  pub is : file ≡ text ++ line ++ rest
  pub whole : (text ≡ []) ⊎ IsEnded text
  pub job : IsOneJob text
  pub separates : is_separator line ≡ true
  pub ended : IsEnded line ⊎ (rest ≡ [])

-- the file has just these texts, one after another, with one separating line between each and the next
abbrev pub HasJobs : List ℕ → List (List ℕ) → Type 0
HasJobs file [] = ⊥
HasJobs file (text ∷ []) = (file ≡ text) × IsOneJob text
HasJobs file (text ∷ next ∷ texts) = (rest : List ℕ) × IsCut file text rest × HasJobs rest (next ∷ texts)

-- The jobs of a file are its texts between separating lines; and there is one way only to see it so.
abbrev pub AreBetween : Type 0
AreBetween = (file : List ℕ) → HasJobs file (jobs_in file) × ((texts : List (List ℕ)) → HasJobs file texts → texts ≡ jobs_in file)
