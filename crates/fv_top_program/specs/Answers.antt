-- What calls say beside `headline/Answers`: answers of layers, one after another: each has one relation, and they compose.
use Rattle.std.specs.Prelude.{◌≡◌, Result, Ok, Err}

-- one answer at most
abbrev pub IsOnce : {X A E : Type 0} → (X → Result A E → Type 0) → Type 0
IsOnce {X} {A} {E} P = (x : X) (r s : Result A E) → P x r → P x s → r ≡ s

-- one answer at least, of what is G
abbrev pub IsSome : {X A E : Type 0} → (G : X → Type 0) → (X → Result A E → Type 0) → Type 0
IsSome {X} {A} {E} G P = (x : X) → G x → (r : Result A E) × P x r

-- what is not answered is refused
abbrev pub RefusesOthers : {X A E : Type 0} → (X → Result A E → Type 0) → Type 0
RefusesOthers {X} {A} {E} P = (x : X) → ((a : A) → P x (Ok a) → ⊥) → (e : E) × P x (Err e)
