-- What loading leaves of the desk, and why it stops.
use Rattle.std.proofs.Common.{◌≡◌, ◌⊎◌, ℕ, List, [], ◌∷◌, ◌++◌, ◌∙◌, sym, refl, inl, inr}
use Rattle.std.specs.Prelude.{IsTrue, Option, Some, None}
use Rattle.std.proofs.lemmas.List.{append-nil}
use Rattle.fv_outside.specs.Role.{Role}
use Rattle.fv_outside.specs.headline.Requests.{to_read}
use Rattle.fv_outside.specs.headline.Desk.{DeskState, GoesOn, HasFault, IsUnfailing}
use Rattle.fv_outside.specs.Desk.{CountsCall, KeepsLeftBut, KeepsWritten, KeepsBegins, Takes, TakesSome}
use Rattle.fv_outside.proofs.lemmas.States.{quiet_self, quiet_then, takes_quiet, told_before, fault_earlier, unfailing_later}
use Rattle.fv_top_report.specs.declared.refusal.Refusal.{Refusal}
use Rattle.fv_top_report.specs.declared.refusal.Refusal.TheVariants.{NoMemory}
use Rattle.fv_outside.specs.declared.transfer.ReadError.{ReadError}
use Rattle.fv_outside.specs.declared.transfer.ReadError.TheVariants.{Failed, NoMemory as OutOfMemory}
use Rattle.fv_top_files.specs.Loading.{ReadsFile, CannotRead, StopsLoading, refusal_of_read}

-- the file was begun, or could not be
pub reads_begun : {role : Role} {name : List ℕ} {a b : DeskState} → GoesOn a b → CountsCall role a b → b.requests ≡ a.requests ++ to_read role name ∷ []
    → KeepsLeftBut role a b → KeepsWritten a b → KeepsBegins a b → ReadsFile role (Some name) a b
reads_begun on counts asked left written begins = record {
  quiet = record { goes_on = on; written = written; begins = begins };
  requests = asked;
  others = λ t r n. left t r (n refl);
  other_faults = counts.other_faults;
}

-- bytes of the file that was begun were taken
pub reads_then_takes : {role : Role} {name xs : List ℕ} {a b c : DeskState} → ReadsFile role (Some name) a b → Takes role xs b c
    → ReadsFile role (Some name) a c
reads_then_takes p q = record {
  quiet = quiet_then p.quiet (takes_quiet q);
  requests = q.requests ∙ p.requests;
  others = λ t r n. q.others (told_before p.quiet.goes_on t) r (n refl) ∙ p.others t r n;
  other_faults = λ r n. q.other_faults r n ∙ p.other_faults r n;
}

pub reads_then_some : {role : Role} {name : List ℕ} {a b c : DeskState} → ReadsFile role (Some name) a b → TakesSome role b c → ReadsFile role (Some name) a c
reads_then_some p q = reads_then_takes p q.takes

-- where no file is named, nothing is read
pub reads_nothing : (role : Role) (a : DeskState) → ReadsFile role None a a
reads_nothing role a = record { quiet = quiet_self a; requests = sym (append-nil a.requests); others = λ t r n. refl; other_faults = λ r n. refl }

pub ruleset reading = (reads_begun, reads_then_takes, reads_then_some, reads_nothing)

-- a read of the file that was begun failed
pub cannot_later : {role : Role} {name : List ℕ} {a b c : DeskState} → ReadsFile role (Some name) a b → HasFault role b c
    → (IsTrue b.tells → IsUnfailing role b → ⊥) → CannotRead role (Some name) a c
cannot_later {role} {c = c} p h u = record {
  named = refl;
  fault = fault_earlier c role p.quiet.goes_on h;
  unsure = λ t sure. u (told_before p.quiet.goes_on t) (unfailing_later role p.quiet.goes_on t sure.0);
}

-- what is refused, where it was read
pub stops_refused : (role : Role) (name : Option (List ℕ)) (Kind P Q : Refusal → Type 0) (old new : DeskState) (r : Refusal) → (r ≡ NoMemory) ⊎ (Kind r × Q r)
    → (IsTrue old.tells → Q r → P r) →
    StopsLoading role name Kind P old new r
stops_refused role name Kind P Q old new r (inl m) p = inr (inr m)
stops_refused role name Kind P Q old new r (inr h) p = inr (inl (h.0, λ t. p t h.1))

-- a read of the file that was begun was refused
pub read_refused : {role : Role} {name : List ℕ} {a b c : DeskState} (Kind P : Refusal → Type 0) (error : ReadError) (r : Refusal)
    → r ≡ refusal_of_read role error → ReadsFile role (Some name) a b
    → (error ≡ Failed → HasFault role b c) → (error ≡ Failed → IsTrue b.tells → IsUnfailing role b → ⊥) → StopsLoading role (Some name) Kind P a c r
read_refused Kind P Failed r is p h u = inl (is, cannot_later p (h refl) (u refl))
read_refused Kind P OutOfMemory r is p h u = inr (inr is)
