-- The definitions, computed on small files.
use Rattle.std.specs.Prelude.{◌≡◌, [], ◌∷◌, codes, refl}
use Rattle.fv_jobs.specs.headline.Jobs.{jobs_in}

two : jobs_in (codes "a\n%%\nb\n") ≡ codes "a\n" ∷ codes "b\n" ∷ []
two = refl

-- an empty file is one empty job
none : jobs_in [] ≡ [] ∷ []
none = refl

-- a last line that separates has an empty job after it, whether or not it is ended
last : (jobs_in (codes "a\n%%") ≡ codes "a\n" ∷ [] ∷ []) × (jobs_in (codes "a\n%%\n") ≡ codes "a\n" ∷ [] ∷ [])
last = (refl, refl)

-- one byte 13 is allowed
returns : jobs_in (codes "a\n%%\r\nb%%\n%%\r") ≡ codes "a\n" ∷ codes "b%%\n" ∷ [] ∷ []
returns = refl

-- blanks are not, nor a third sign, nor a second byte 13
others : jobs_in (codes "%% \n %%\n%%%\n%%\r\r\n%") ≡ codes "%% \n %%\n%%%\n%%\r\r\n%" ∷ []
others = refl

-- also where a comment or a string stands open
comment : jobs_in (codes "/*\n%%\n*/") ≡ codes "/*\n" ∷ codes "*/" ∷ []
comment = refl
