-- Readings go on from one call to the next.
use Rattle.std.proofs.Common.{ℕ, ◌∙◌}
use Rattle.std.specs.Prelude.{IsTrue}
use Rattle.fv_outside.specs.headline.Desk.{DeskState}
use Rattle.fv_base.specs.declared.role.Role.TheVariants.{Input}
use Rattle.fv_outside.proofs.lemmas.States.{told_before, fault_earlier, unfailing_later, some_then}
use Rattle.fv_wav.specs.Stopping.{Passes, IsSaid}
use Rattle.fv_wav.proofs.lemmas.Steps.{passes_nothing}
use Rattle.fv_au.specs.Stopping.{AuStops, IsAuCause}
use Rattle.fv_au.specs.declared.refusal.AuRefusal.{AuRefusal}
use Rattle.fv_au.specs.declared.refusal.AuRefusal.TheVariants.{ReadFault, AuFormat, AuTruncated, NoMemory}

-- what is said of a later state, said of an earlier one
said_earlier : {P Q : Type 0} {n : ℕ} {R : Type 0} {a b c : DeskState} → Passes n R a b → (IsTrue a.tells → P → Q) → IsSaid P b c → IsSaid Q a c
said_earlier p f s = record { steady = λ r. s.steady r ∙ p.steady r; told = λ t. f t (s.told (told_before p.takes.goes_on t)) }

-- a cause counts from an earlier state on
cause_earlier : (P Q : Type 0) {R : Type 0} {n : ℕ} (a b c : DeskState) (e : AuRefusal) → Passes n R a b → (IsTrue a.tells → P → Q) → IsAuCause e P b c
    → IsAuCause e Q a c
cause_earlier P Q a b c (ReadFault role) p f h =
    let g = p.takes.goes_on in
    (h.0, record { counted = fault_earlier c Input g h.1.counted; due = λ t u. h.1.due (told_before g t) (unfailing_later Input g t u) })
cause_earlier P Q a b c (AuFormat n) p f h = said_earlier p f h
cause_earlier P Q a b c (AuTruncated n) p f h = said_earlier p f h
cause_earlier P Q a b c NoMemory p f h = h

-- a reading, and then a stop
pub stops_then : {P Q : Type 0} (R : Type 0) {n : ℕ} {a b c : DeskState} {e : AuRefusal} → Passes n P a b → AuStops Q b c e → (P → Q → R) → AuStops R a c e
stops_then {P} {Q} R {a = a} {b = b} {c = c} {e = e} p s f =
    record { some = some_then p.takes s.some; cause = cause_earlier Q R a b c e p (λ t q. f (p.told t) q) s.cause }

-- a stop at once, said otherwise
pub stops_as : {Q : Type 0} (R : Type 0) {a c : DeskState} {e : AuRefusal} → AuStops Q a c e → (Q → R) → AuStops R a c e
stops_as R {e = e} s f = stops_then R (passes_nothing {P = Unit {0}} _ (λ _. tt)) s (λ _ q. f q)
