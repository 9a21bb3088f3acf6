-- No signal of a rebuilt graph is an operation or a delay that its operands decide.
use Rattle.std.proofs.Common.{◌≡◌, ℕ, zero, suc, ◌<◌, List, length, take, map, refl, sym, ap, ◌∙◌, subst, arith, ℤ, pos, Some, None, true, false, Bool}
use Rattle.std.proofs.Common.{if◌then◌else◌}
use Rattle.std.specs.Prelude.{Option}
use Rattle.fv_num.specs.declared.op.Op.{Op}
use Rattle.fv_num.specs.declared.op.Op.TheVariants.{Select2, Select3}
use Rattle.fv_num.specs.headline.Words.{inputs_of}
use Rattle.std.specs.Ordering.{int_eq}
use Rattle.fv_signal.specs.declared.signal.Signal.TheVariants.{Point}
use Rattle.fv_signal.specs.headline.Value.{Graph, IsGraph}
use Rattle.fv_simplify.specs.Choices.{is_neutral, is_absorbing, left_by, or_else, selected2, selected3, choice}
use Rattle.fv_simplify.specs.Nodes.{node, number, known, numbers}
use Rattle.fv_simplify.specs.Reducible.{IsSelector, IsDelayedBy, IsTakenOver, IsReducible, OnNumbers, ByNeutral, ByAbsorbing, BySelector, ByNothing}
use Rattle.fv_simplify.specs.Reducible.{OfNothing, Loose, OfDelay}
use Rattle.fv_simplify.specs.Rebuilt.{IsRebuilt}
use Rattle.fv_simplify.proofs.lemmas.Origins.{Origin, OfNumber, OfInput, OfControl, OfBack, OfRead, OfWrite, OfPoint, OfLate, OfVarying, origin, tight}

-- ---- an operation that no number decides

no_else : (a b : Option ℕ) → or_else a b ≡ None → (a ≡ None) × (b ≡ None)
no_else None b h = (refl, h)
no_else (Some i) b h = absurd cc

left_none : (op : Op) (place other : ℕ) (n : ℤ) → left_by op place other (Some n) ≡ None → (is_neutral op place n ≡ true → ⊥)
    × (is_absorbing op place n ≡ true → ⊥)
left_none op place other n h = go (is_neutral op place n) (is_absorbing op place n) h
  where
    go : (a b : Bool) → (if a then Some other else if b then Some place else None) ≡ None → (a ≡ true → ⊥) × (b ≡ true → ⊥)
    go true b e = absurd cc
    go false true e = absurd cc
    go false false e = ((λ q. absurd cc), (λ q. absurd cc))

none_at : (op : Op) (k : ℕ → Option ℤ) (place : ℕ) (n : ℤ) → or_else (left_by op 1 0 (k 1)) (left_by op 0 1 (k 0)) ≡ None → place < 2 → k place ≡ Some n →
    (is_neutral op place n ≡ true → ⊥) × (is_absorbing op place n ≡ true → ⊥)
none_at op k zero n h l e = left_none op 0 1 n (ap (left_by op 0 1) (sym e) ∙ (no_else (left_by op 1 0 (k 1)) (left_by op 0 1 (k 0)) h).1)
none_at op k (suc zero) n h l e = left_none op 1 0 n (ap (left_by op 1 0) (sym e) ∙ (no_else (left_by op 1 0 (k 1)) (left_by op 0 1 (k 0)) h).0)
none_at op k (suc (suc place)) n h l e = absurd (omega (arith, l))

pub undecided : (op : Op) (k : ℕ → Option ℤ) (place : ℕ) (n : ℤ) → choice op k ≡ None → place < 2 → k place ≡ Some n → (is_neutral op place n ≡ true → ⊥)
    × (is_absorbing op place n ≡ true → ⊥)
undecided Select2 k place n h l e = ((λ q. absurd cc), (λ q. absurd cc))
undecided Select3 k place n h l e = ((λ q. absurd cc), (λ q. absurd cc))
undecided op k place n h l e = none_at op k place n h l e

two_some : (b : Bool) (x y : ℕ) → (if b then Some x else Some y) ≡ None → ⊥
two_some true x y h = absurd cc
two_some false x y h = absurd cc

three_some : (b d : Bool) (x y z : ℕ) → (if b then Some x else if d then Some y else Some z) ≡ None → ⊥
three_some true d x y z h = absurd cc
three_some false true x y z h = absurd cc
three_some false false x y z h = absurd cc

pub unselected : (op : Op) (k : ℕ → Option ℤ) (n : ℤ) → choice op k ≡ None → IsSelector op → k 0 ≡ Some n → ⊥
unselected Select2 k n h s e = two_some (int_eq n (pos 0)) 1 2 (ap selected2 (sym e) ∙ h)
unselected Select3 k n h s e = three_some (int_eq n (pos 0)) (int_eq n (pos 1)) 1 2 3 (ap selected3 (sym e) ∙ h)
unselected op k n h s e = absurd s

module _ (g f : Graph) (p : ℕ → ℕ) (room : ℕ → Option ℕ) (P : ℕ → Type 0) (whole : IsGraph g) (h : IsRebuilt g f p room P) where
  -- the operation at a place
  pub standing : (i : ℕ) (op : Op) (args : List ℕ) → i < length f.signals → node f i ≡ Point op args → (numbers f (take (inputs_of op) args) ≡ None)
      × (choice op (known f (take (inputs_of op) args)) ≡ None)
  standing i op args l e = go (origin g f p room P whole h i l)
    where
      go : Origin g f p room P whole h i → (numbers f (take (inputs_of op) args) ≡ None) × (choice op (known f (take (inputs_of op) args)) ≡ None)
      go (OfNumber n q) = absurd cc
      go (OfInput s k a q) = absurd cc
      go (OfControl s k a q) = absurd cc
      go (OfBack s group k a q) = absurd cc
      go (OfRead table r q) = absurd cc
      go (OfWrite table w y r q) = absurd cc
      go (OfLate s y b m c k o a q r z w u i) = absurd cc
      go (OfVarying s y b m o a q r w i) = absurd cc
      go (OfPoint s op' args' o a q w r t u) =
          let both = sym e ∙ u in
          let same_op : op ≡ op' = cc in
          let same_args : args ≡ map p args' = cc in
          subst (λ b. (numbers f (take (inputs_of b) args) ≡ None) × (choice b (known f (take (inputs_of b) args)) ≡ None)) (sym same_op)
          (subst (λ ys. (numbers f (take (inputs_of op') ys) ≡ None) × (choice op' (known f (take (inputs_of op') ys)) ≡ None)) (sym same_args) (r, t))

  -- the reasons that speak of operands alone do not hold
  pub irreducible : (s : ℕ) → ((y : ℕ) (b : ℤ) → IsDelayedBy f s y b → IsTakenOver f y → ⊥) → IsReducible f s → ⊥
  irreducible s last (OnNumbers op args ns a q) = let r = (standing s op args a.within a.is).0 in absurd cc
  irreducible s last (ByNeutral op args place n a l q t) =
      (undecided op (known f (take (inputs_of op) args)) place n (standing s op args a.within a.is).1 l q).0 t
  irreducible s last (ByAbsorbing op args place n a l q t) =
      (undecided op (known f (take (inputs_of op) args)) place n (standing s op args a.within a.is).1 l q).1 t
  irreducible s last (BySelector op args n a t q) = unselected op (known f (take (inputs_of op) args)) n (standing s op args a.within a.is).1 t q
  irreducible s last (ByNothing x by most a q) = let r = (tight g f p room P whole h s x by most a.within a.is).1 (pos 0) (ap number q) in let e : 0 ≡ most =
      cc in absurd (omega (arith, e, r.1))
  irreducible s last (OfNothing x by most a q) = (tight g f p room P whole h s x by most a.within a.is).0 q
  irreducible s last (Loose x by most c a q ne) = ne ((tight g f p room P whole h s x by most a.within a.is).1 c (ap number q)).0
  irreducible s last (OfDelay y b d t) = last y b d t
