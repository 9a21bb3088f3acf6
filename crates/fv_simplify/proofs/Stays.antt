-- What a rebuilt graph keeps of its delays, inputs and controls.
use Rattle.std.proofs.Common.{◌≡◌, ℕ, ◌+◌, ◌<◌, ◌≤◌, List, length, sym, ap, ◌∙◌, subst, arith, ℤ, pos, negsuc, Some}
use Rattle.std.specs.Prelude.{Option}
use Rattle.std.proofs.lemmas.Int.{ints, clamps}
use Rattle.fv_num.specs.headline.Frames.{Frame, Stream}
use Rattle.fv_num.specs.headline.Interval.{IsWithin}
use Rattle.fv_signal.specs.declared.signal.Signal.TheVariants.{Input, Const, Control, Delay}
use Rattle.fv_signal.specs.headline.Value.{Graph, value, OperandsBelow, IsGraph, back_by}
use Rattle.fv_simplify.specs.Nodes.{node, StandsAt, number, number_at}
use Rattle.fv_signal.specs.Value.{StayWithin}
use Rattle.fv_simplify.specs.Reducible.{AreSmall}
use Rattle.fv_simplify.specs.Rebuilt.{base, IsRebuilt}
use Rattle.fv_simplify.proofs.lemmas.Origins.{Origin, OfNumber, OfInput, OfControl, OfBack, OfRead, OfWrite}
use Rattle.fv_simplify.proofs.lemmas.Origins.{OfPoint, OfLate, OfVarying, origin, tight, delay_on}
use Rattle.fv_simplify.proofs.Values.{same, number_is}

pub back_least : (most : ℕ) (c : ℤ) → back_by most c ≤ most
back_least most (pos n) = grind (arith, ints, clamps)
back_least most (negsuc n) = grind (arith, ints, clamps)

module _ (g f : Graph) (p : ℕ → ℕ) (room : ℕ → Option ℕ) (P : ℕ → Type 0) (whole : IsGraph g) (h : IsRebuilt g f p room P) where
  pub inputs_kept : (s k : ℕ) → StandsAt f s (Input k) → (r : ℕ) × StandsAt g r (Input k)
  inputs_kept s k a = let e = a.is in go e (origin g f p room P whole h s a.within)
    where
      go : node f s ≡ Input k → Origin g f p room P whole h s → (r : ℕ) × StandsAt g r (Input k)
      go e (OfNumber n q) = absurd cc
      go e (OfInput r j b q) = let both = sym e ∙ q in let z : j ≡ k = cc in (r, subst (λ i. StandsAt g r (Input i)) z b)
      go e (OfControl r j b q) = absurd cc
      go e (OfBack r group j b q) = absurd cc
      go e (OfRead table a q) = absurd cc
      go e (OfWrite table w y a q) = absurd cc
      go e (OfPoint r op args o b q w t u v) = absurd cc
      go e (OfLate r y b m c j o d q t z w u i) = absurd cc
      go e (OfVarying r y b m o d q t w i) = absurd cc

  pub controls_kept : (s k : ℕ) → StandsAt f s (Control k) → (r : ℕ) × StandsAt g r (Control k)
  controls_kept s k a = let e = a.is in go e (origin g f p room P whole h s a.within)
    where
      go : node f s ≡ Control k → Origin g f p room P whole h s → (r : ℕ) × StandsAt g r (Control k)
      go e (OfNumber n q) = absurd cc
      go e (OfInput r j b q) = absurd cc
      go e (OfControl r j b q) = let both = sym e ∙ q in let z : j ≡ k = cc in (r, subst (λ i. StandsAt g r (Control i)) z b)
      go e (OfBack r group j b q) = absurd cc
      go e (OfRead table a q) = absurd cc
      go e (OfWrite table w y a q) = absurd cc
      go e (OfPoint r op args o b q w t u v) = absurd cc
      go e (OfLate r y b m c j o d q t z w u i) = absurd cc
      go e (OfVarying r y b m o d q t w i) = absurd cc

  -- no delay goes further than its greatest number
  pub within_kept : (X : List Frame) (c : ℕ → Stream) → AreSmall X c → StayWithin g X c → StayWithin f X c
  within_kept X c small stays s x by most t a = let e = a.is in go e (origin g f p room P whole h s a.within)
    where
      there : by < length f.signals
      there = let b = subst (OperandsBelow f s) a.is (h.graph.ordered s (Const (pos 0)) a.within) in let l = a.within in omega (arith, b.1, l)

      natural : (n : ℕ) → IsWithin (record { lo = pos 0; hi = pos n }) (pos n)
      natural n = record { above = omega (arith, ints); below = omega (arith, ints) }

      go : node f s ≡ Delay x by most → Origin g f p room P whole h s → IsWithin (record { lo = pos 0; hi = pos most }) (value f by X c t)
      go e (OfNumber n q) = absurd cc
      go e (OfInput r j b q) = absurd cc
      go e (OfControl r j b q) = absurd cc
      go e (OfBack r group j b q) = absurd cc
      go e (OfRead table a q) = absurd cc
      go e (OfWrite table w y a q) = absurd cc
      go e (OfPoint r op args o b q w i u v) = absurd cc
      go e (OfLate r y b m z k o d q i j w u v) =
          let both = sym e ∙ v in
          let same_d : by ≡ k = cc in
          let named : number_at f by ≡ Some (pos ((base f (room y) (p y)).1 + back_by m z)) = ap (number_at f) same_d ∙ ap number u in
          let n = (base f (room y) (p y)).1 + back_by m z in
          let exact = ((tight g f p room P whole h s x by most a.within e).1 (pos n) named).0 in
          subst (IsWithin (record { lo = pos 0; hi = pos most })) (sym (number_is g f p room P whole h X c small by t (pos n) there named ∙ exact))
          (natural most)
      go e (OfVarying r y b m o d q i w v) =
          let both = sym e ∙ v in
          let same_d : by ≡ p b = cc in
          let same_m : most ≡ m = cc in
          let on = delay_on g f p room P whole h r y b m d.within o d.is in
          let l = d.within in
          let there = same g f p room P whole h X c small b t (omega (arith, on.0.1, l)) on.1.1 in
          subst (λ n. IsWithin (record { lo = pos 0; hi = pos n }) (value f by X c t)) (sym same_m)
          (subst (IsWithin (record { lo = pos 0; hi = pos m })) (sym (ap (λ k. value f k X c t) same_d ∙ there)) (stays r y b m t d))
