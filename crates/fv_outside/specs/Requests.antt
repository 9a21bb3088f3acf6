-- What calls say beside `headline/Requests`: what a desk is asked to begin (this project's profile).
use Rattle.std.specs.Prelude.{◌≡◌, ℕ, ◌==◌, List, if◌then◌else◌, refl}
use Rattle.std.specs.Coded.{Coded, code_by, coded×, coded_ℕ, coded_list}
use Rattle.fv_base.specs.declared.role.Role.{Role}
use Rattle.fv_base.specs.declared.role.Role.TheVariants.{Program, Input, Controls, Output, Report}
use Rattle.fv_outside.specs.headline.Requests.{Request, to_read, to_write}

-- the place of the role in a list of one for each
abbrev pub place_of : Role → ℕ
place_of Program = 0
place_of Input = 1
place_of Controls = 2
place_of Output = 3
place_of Report = 4

-- ---- as numbers, since a list that only clauses read is stored so
abbrev role_at : ℕ → Role
role_at n = if n == 0 then Program else (if n == 1 then Input else (if n == 2 then Controls else (if n == 3 then Output else Report)))

-- the direction, the role and the name
abbrev to_numbers : Request → ℕ × (ℕ × List ℕ)
to_numbers (to_read role name) = (0, (place_of role, name))
to_numbers (to_write role name) = (1, (place_of role, name))

-- the request that they stand for
abbrev from_numbers : ℕ × (ℕ × List ℕ) → Request
from_numbers n = if n.0 == 0 then to_read (role_at n.1.0) n.1.1 else to_write (role_at n.1.0) n.1.1

pub from_numbers-to_numbers : (r : Request) → from_numbers (to_numbers r) ≡ r
from_numbers-to_numbers (to_read Program name) = refl
from_numbers-to_numbers (to_read Input name) = refl
from_numbers-to_numbers (to_read Controls name) = refl
from_numbers-to_numbers (to_read Output name) = refl
from_numbers-to_numbers (to_read Report name) = refl
from_numbers-to_numbers (to_write Program name) = refl
from_numbers-to_numbers (to_write Input name) = refl
from_numbers-to_numbers (to_write Controls name) = refl
from_numbers-to_numbers (to_write Output name) = refl
from_numbers-to_numbers (to_write Report name) = refl

-- a list of requests, by these numbers
abbrev pub coded_requests : Coded (List Request)
coded_requests = coded_list (code_by (ℕ × (ℕ × List ℕ)) (coded× coded_ℕ (coded× coded_ℕ (coded_list coded_ℕ))) to_numbers from_numbers from_numbers-to_numbers)
