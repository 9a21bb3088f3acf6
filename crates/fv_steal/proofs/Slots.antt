-- What the slots of a seat hold after exchanges, and of a task that was just taken.
use Rattle.std.proofs.Common.{◌≡◌, ◌≢◌, ℕ, ◌<◌, cond, List, [], ◌∷◌, ◌++◌, refl, sym, ap, ◌∙◌, arith, ◌==◌, eq-eqb, ne_eqb, Option, Some, None}
use mathlib.Core.Logic.{dite}
use native.Mathlib.Decide.{ℕ_discrete}
use Rattle.fv_outside.specs.Tasks.{times}
use Rattle.fv_graph.proofs.lemmas.Counts.{bit_apart}
use Rattle.fv_ready.specs.Rule.{places, Each}
use Rattle.fv_ready.specs.Carried.{slot_at, with_slot}

module _ {C : Type 0} where
  -- the slot of the edge whose slot was exchanged
  pub slot_with : (c : List (ℕ × Option C)) (e : ℕ) (y : Option C) → 0 < times e (places c) → slot_at (with_slot c e y) e ≡ y
  slot_with [] e y h = absurd (omega arith)
  slot_with (x ∷ xs) e y h = dite (ℕ_discrete x.0 e)
      (λ is. ap (λ b. slot_at (cond b ((e, y) ∷ xs) (x ∷ with_slot xs e y)) e) (eq-eqb x.0 e is) ∙ ap (λ b. cond b y (slot_at xs e)) (eq-eqb e e refl))
      (λ ne. ap (λ b. slot_at (cond b ((e, y) ∷ xs) (x ∷ with_slot xs e y)) e) (ne_eqb x.0 e ne)
      ∙ ap (λ b. cond b x.1 (slot_at (with_slot xs e y) e)) (ne_eqb x.0 e ne) ∙ slot_with xs e y (let z = bit_apart x.0 e ne in omega arith))

  -- any other slot
  pub slot_else : (c : List (ℕ × Option C)) (e : ℕ) (y : Option C) (d : ℕ) → d ≢ e → slot_at (with_slot c e y) d ≡ slot_at c d
  slot_else [] e y d apart = refl
  slot_else (x ∷ xs) e y d apart = dite (ℕ_discrete x.0 e)
      (λ is. ap (λ b. slot_at (cond b ((e, y) ∷ xs) (x ∷ with_slot xs e y)) d) (eq-eqb x.0 e is)
      ∙ ap (λ b. cond b y (slot_at xs d)) (ne_eqb e d (λ q. apart (sym q))) ∙ sym (ap (λ b. cond b x.1 (slot_at xs d)) (ne_eqb x.0 d (λ q. apart (sym q
      ∙ is)))))
      (λ ne. ap (λ b. slot_at (cond b ((e, y) ∷ xs) (x ∷ with_slot xs e y)) d) (ne_eqb x.0 e ne)
      ∙ ap (λ z. cond (x.0 == d) x.1 z) (slot_else xs e y d apart))

  -- full slots in front
  pub in_front : (P : ℕ → Option C → Type 0) → ((e : ℕ) (x : Option C) → P e x → (p : C) × (x ≡ Some p))
      → (ins rest : List (ℕ × Option C)) → Each P ins → (e : ℕ) → 0 < times e (places ins) → (p : C) × (slot_at (ins ++ rest) e ≡ Some p)
  in_front P some [] rest all e h = absurd (omega arith)
  in_front P some (x ∷ xs) rest all e h = dite (ℕ_discrete x.0 e)
      (λ is. let p = some x.0 x.1 all.0 in (p.0, ap (λ b. cond b x.1 (slot_at (xs ++ rest) e)) (eq-eqb x.0 e is) ∙ p.1))
      (λ ne. let p = in_front P some xs rest all.1 e (let z = bit_apart x.0 e ne in omega arith) in
      (p.0, ap (λ b. cond b x.1 (slot_at (xs ++ rest) e)) (ne_eqb x.0 e ne) ∙ p.1))

  nones : (outs : List (ℕ × Option C)) → Each (λ e x. x ≡ None) outs → (e : ℕ) → slot_at (outs ++ []) e ≡ None
  nones [] all e = refl
  nones (x ∷ xs) all e = dite (ℕ_discrete x.0 e)
      (λ is. ap (λ b. cond b x.1 (slot_at (xs ++ []) e)) (eq-eqb x.0 e is) ∙ all.0)
      (λ ne. ap (λ b. cond b x.1 (slot_at (xs ++ []) e)) (ne_eqb x.0 e ne) ∙ nones xs all.1 e)

  -- empty slots after
  pub behind : (ins outs : List (ℕ × Option C)) → Each (λ e x. x ≡ None) outs → (e : ℕ) → times e (places ins) ≡ 0 → slot_at (ins ++ (outs ++ [])) e ≡ None
  behind [] outs all e h = nones outs all e
  behind (x ∷ xs) outs all e h = dite (ℕ_discrete x.0 e)
      (λ is. let o = Rattle.fv_graph.proofs.lemmas.Counts.bit_same x.0 e is in absurd (omega arith))
      (λ ne. ap (λ b. cond b x.1 (slot_at (xs ++ (outs ++ [])) e)) (ne_eqb x.0 e ne) ∙ behind xs outs all e (omega arith))
