-- Readings go on from one call to the next.
use Rattle.std.proofs.Common.{◌≡◌, ℕ, ◌+◌, List, [], ◌++◌, length, sym, ◌∙◌, ap, refl, length-append}
use Rattle.std.specs.Prelude.{IsTrue}
use Rattle.fv_outside.specs.headline.Desk.{DeskState}
use Rattle.fv_base.specs.declared.role.Role.TheVariants.{Input}
use Rattle.fv_outside.proofs.lemmas.States.{told_before, fault_earlier, unfailing_later}
use Rattle.fv_wav.specs.headline.Reading.{rest_of}
use Rattle.fv_wav.specs.Stopping.{Passes, Stops, IsCause, IsSaid}
use Rattle.fv_wav.specs.declared.refusal.WaveRefusal.{WaveRefusal}
use Rattle.fv_wav.specs.declared.refusal.WaveRefusal.TheVariants.{ReadFault, NotWave, WaveTruncated, WaveFormat, WaveChunks}
use Rattle.fv_outside.proofs.lemmas.States.{takes_nothing, takes_then, some_then}

-- nothing was taken
pub passes_nothing : {P : Type 0} (a : DeskState) → (IsTrue a.tells → P) → Passes 0 P a a
passes_nothing a p = record { bytes = []; long = refl; takes = takes_nothing Input a; steady = λ r. refl; told = p }

-- one reading, and then another
pub passes_then : {P Q : Type 0} (R : Type 0) {n m k : ℕ} {a b c : DeskState} → Passes n P a b → Passes m Q b c → k ≡ n + m → (P → Q → R) → Passes k R a c
passes_then R {n = n} p q e f = record {
  bytes = p.bytes ++ q.bytes;
  long = length-append p.bytes q.bytes ∙ ap (λ i. i + length q.bytes) p.long ∙ ap (λ i. n + i) q.long ∙ sym e;
  takes = takes_then p.takes q.takes;
  steady = λ r. q.steady r ∙ p.steady r;
  told = λ t. f (p.told t) (q.told (told_before p.takes.goes_on t));
}

-- what a reading says, said otherwise
pub passes_as : {P : Type 0} (Q : Type 0) {n : ℕ} {a b : DeskState} → Passes n P a b → (P → Q) → Passes n Q a b
passes_as Q p f = record { bytes = p.bytes; long = p.long; takes = p.takes; steady = p.steady; told = λ t. f (p.told t) }

-- what is said of a later state, said of an earlier one
said_earlier : {P Q : Type 0} {n : ℕ} {R : Type 0} {a b c : DeskState} → Passes n R a b → (IsTrue a.tells → P → Q) → IsSaid P b c → IsSaid Q a c
said_earlier p f s = record { steady = λ r. s.steady r ∙ p.steady r; told = λ t. f t (s.told (told_before p.takes.goes_on t)) }

-- a cause counts from an earlier state on
pub cause_earlier : (P Q : Type 0) {R : Type 0} {n : ℕ} (a b c : DeskState) (e : WaveRefusal) → Passes n R a b → (IsTrue a.tells → P → Q) → IsCause e P b c
    → IsCause e Q a c
cause_earlier P Q a b c (ReadFault role) p f h =
    let g = p.takes.goes_on in
    (h.0, record { counted = fault_earlier c Input g h.1.counted; due = λ t u. h.1.due (told_before g t) (unfailing_later Input g t u) })
cause_earlier P Q a b c (NotWave n) p f h = said_earlier p f h
cause_earlier P Q a b c (WaveTruncated n) p f h = said_earlier p f h
cause_earlier P Q a b c (WaveFormat n) p f h = said_earlier p f h
cause_earlier P Q a b c (WaveChunks n) p f h = said_earlier p f h

-- a reading, and then a stop
pub stops_then : {P Q : Type 0} (R : Type 0) {n : ℕ} {a b c : DeskState} {e : WaveRefusal} → Passes n P a b → Stops Q b c e → (P → Q → R) → Stops R a c e
stops_then {P} {Q} R {a = a} {b = b} {c = c} {e = e} p s f =
    record { some = some_then p.takes s.some; cause = cause_earlier Q R a b c e p (λ t q. f (p.told t) q) s.cause }

-- a stop at once, said otherwise
pub stops_as : {Q : Type 0} (R : Type 0) {a c : DeskState} {e : WaveRefusal} → Stops Q a c e → (Q → R) → Stops R a c e
stops_as R {e = e} s f = stops_then R (passes_nothing {P = Unit {0}} _ (λ _. tt)) s (λ _ q. f q)

-- a rule fails after a reading
pub fails_then : {P : Type 0} (R : Type 0) {n : ℕ} {a b : DeskState} (place : ℕ) → Passes n P a b → (P → R) → Stops R a b (WaveFormat place)
fails_then R place p f = record { some = record { bytes = p.bytes; takes = p.takes }; cause = record { steady = p.steady; told = λ t. f (p.told t) } }

-- two readings, one after another
pub passes_both : {P Q : Type 0} {n m : ℕ} {a b c : DeskState} → Passes n P a b → Passes m Q b c → Passes (n + m) (P × Q) a c
passes_both {P} {Q} p q = passes_then (P × Q) p q refl (λ x y. (x, y))

-- the places of two readings are the same
pub same_rest : (m n : ℕ) (bytes : List ℕ) → m ≡ n → rest_of m bytes ≡ rest_of n bytes
same_rest m n bytes e = ap (λ (k : ℕ). rest_of k bytes) e

-- a rule fails at once
pub fails_now : (R : Type 0) (a : DeskState) (place : ℕ) → R → Stops R a a (WaveFormat place)
fails_now R a place r = record { some = record { bytes = []; takes = takes_nothing Input a }; cause = record { steady = λ r. refl; told = λ t. r } }
