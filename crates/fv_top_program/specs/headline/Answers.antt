-- Answers of layers, one after another: each has one relation, and they compose.
use Rattle.std.specs.Prelude.{◌≡◌, Result, Ok, Err}

-- first P, and then, on what it gave, Q
pub data Then {X A B E : Type 0} (P : X → Result A E → Type 0) (Q : A → Result B E → Type 0) (x : X) : Result B E → Type 0 where
  stops : (e : E) → P x (Err e) → Then P Q x (Err e)
  goes_on : (a : A) (r : Result B E) → P x (Ok a) → Q a r → Then P Q x r

-- P, with its refusals turned into others
pub data Turned {X A D E : Type 0} (of : D → E) (P : X → Result A D → Type 0) (x : X) : Result A E → Type 0 where
  kept : (a : A) → P x (Ok a) → Turned of P x (Ok a)
  turned : (e : D) → P x (Err e) → Turned of P x (Err (of e))

-- what a function gives
abbrev pub Gives : {X A : Type 0} → (X → A) → X → A → Type 0
Gives f x r = f x ≡ r
