-- What a desk of real files means: its counts, and what it was asked for (this project's profile).
use Rattle.std.specs.Prelude.{◌≡◌, ◌≢◌, ℕ, ◌+◌, ◌%◌, ◌^◌, false, None, List, [], ◌∷◌, ◌++◌, slice_index, replicate}
use Rattle.fv_outside.specs.headline.Requests.{Request}
use Rattle.fv_outside.specs.Requests.{place_of}
use Rattle.fv_outside.specs.headline.Desk.{DeskState}
use Rattle.fv_outside.specs.Desk.{raised}
use Rattle.fv_outside.specs.declared.counts.Counts.{Counts}
use Rattle.fv_base.specs.declared.role.Role.{Role}

-- the count of the role in a list of one for each
abbrev pub count_of : List ℕ → Role → ℕ
count_of counts role = slice_index counts (place_of role)

-- nothing was counted
abbrev pub no_counts : Counts
no_counts = record { faults = replicate 5 0; begins = replicate 5 0 }

-- a fault of the role was counted, up to the last value of a count, and nothing else
pub record CountsFault (role : Role) (old new : Counts) : Type 0 where
  pub raised : count_of new.faults role ≡ raised (count_of old.faults role)
  pub others : (r : Role) → r ≢ role → count_of new.faults r ≡ count_of old.faults r
  pub begins : (r : Role) → count_of new.begins r ≡ count_of old.begins r

-- that the writing of the role began was counted, modulo 2 ^ 64, and nothing else
pub record CountsBegin (role : Role) (old new : Counts) : Type 0 where
  pub raised : count_of new.begins role ≡ (count_of old.begins role + 1) % 2 ^ 64
  pub others : (r : Role) → r ≢ role → count_of new.begins r ≡ count_of old.begins r
  pub faults : (r : Role) → count_of new.faults r ≡ count_of old.faults r

pub record FileState : Type 0 where
  pub counts : Counts
  pub requests : List Request

-- it was asked for this, and nothing was counted
abbrev pub after_request : Request → FileState → FileState
after_request request f = record f { requests = f.requests ++ request ∷ [] }

-- as a desk, it tells no bytes
abbrev pub file_state : FileState → DeskState
file_state f = record {
  tells = false;
  files = [];
  left = λ _. [];
  written = λ _. [];
  room = λ _. 0;
  calls = λ _. 0;
  failing = λ _. [];
  faults = λ r. count_of f.counts.faults r;
  begins = λ r. count_of f.counts.begins r;
  requests = f.requests;
  beneath = None;
}
