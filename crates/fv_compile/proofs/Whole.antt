-- Parts side by side are well formed.
use Rattle.std.proofs.Common.{◌⊎◌, inl, inr, ℕ, suc, ◌+◌, ◌%◌, ◌≤◌, [], ◌∷◌, length, refl, sym, ap₂, ◌∙◌, subst, arith}
use Rattle.std.proofs.lemmas.List.Sums.{sum_by-cons}
use Rattle.fv_diagram.specs.headline.Diagram.{Diagram, Primitive, Constant, Control, Slot, Wave, Table, Bind, Par, Seq, Split, Merge, Rec, inputs, outputs}
use Rattle.fv_diagram.specs.Diagram.{control_bound, HasNoFreeSlot, IsFree, IsWellFormed}
use Rattle.fv_compile.specs.headline.Parts.{Part, shifted, side_by_side}
use Rattle.fv_compile.specs.Parts.{AreClosed, PartsAreWhole}
use Rattle.fv_compile.proofs.lemmas.Shifted.{inputs_shifted, outputs_shifted}

well_shifted : (n : ℕ) (d : Diagram) → IsWellFormed d → IsWellFormed (shifted n d)
well_shifted n (Primitive p) h = h
well_shifted n (Constant z) h = tt
well_shifted n (Control k) h = tt
well_shifted n (Slot s) h = tt
well_shifted n (Wave w) h = tt
well_shifted n (Table T writes) h = tt
well_shifted n (Bind s a) h = well_shifted n a h
well_shifted n (Par a b) h = (well_shifted n a h.0, well_shifted n b h.1)
well_shifted n (Seq a b) h = (well_shifted n a h.0, well_shifted n b h.1, outputs_shifted n a ∙ h.2 ∙ sym (inputs_shifted n b))
well_shifted n (Split a b) h = (
  well_shifted n a h.0,
  well_shifted n b h.1,
  subst (λ k. 1 ≤ k) (sym (outputs_shifted n a)) h.2,
  subst (λ k. 1 ≤ k) (sym (inputs_shifted n b)) h.3,
  ap₂ (λ i k. i % k) (inputs_shifted n b) (outputs_shifted n a) ∙ h.4,
)
well_shifted n (Merge a b) h = (
  well_shifted n a h.0,
  well_shifted n b h.1,
  subst (λ k. 1 ≤ k) (sym (outputs_shifted n a)) h.2,
  subst (λ k. 1 ≤ k) (sym (inputs_shifted n b)) h.3,
  ap₂ (λ i k. i % k) (outputs_shifted n a) (inputs_shifted n b) ∙ h.4,
)
well_shifted n (Rec a b) h = (
  well_shifted n a h.0,
  well_shifted n b h.1,
  (let l = h.2 in omega (arith, l, inputs_shifted n b, outputs_shifted n a)),
  (let l = h.3 in omega (arith, l, outputs_shifted n b, inputs_shifted n a)),
)

either : (n s : ℕ) (a b : Diagram) → (IsFree s (shifted n a) → IsFree s a) → (IsFree s (shifted n b) → IsFree s b)
    → IsFree s (shifted n a) ⊎ IsFree s (shifted n b) → IsFree s a ⊎ IsFree s b
either n s a b p q (inl f) = inl (p f)
either n s a b p q (inr f) = inr (q f)

free_shifted : (n s : ℕ) (d : Diagram) → IsFree s (shifted n d) → IsFree s d
free_shifted n s (Primitive p) h = h
free_shifted n s (Constant z) h = h
free_shifted n s (Control k) h = h
free_shifted n s (Slot k) h = h
free_shifted n s (Wave w) h = h
free_shifted n s (Table T writes) h = h
free_shifted n s (Bind k a) h = (free_shifted n s a h.0, h.1)
free_shifted n s (Par a b) h = either n s a b (free_shifted n s a) (free_shifted n s b) h
free_shifted n s (Seq a b) h = either n s a b (free_shifted n s a) (free_shifted n s b) h
free_shifted n s (Split a b) h = either n s a b (free_shifted n s a) (free_shifted n s b) h
free_shifted n s (Merge a b) h = either n s a b (free_shifted n s a) (free_shifted n s b) h
free_shifted n s (Rec a b) h = either n s a b (free_shifted n s a) (free_shifted n s b) h

bound_shifted : (n : ℕ) (d : Diagram) → control_bound (shifted n d) ≤ n + control_bound d
bound_shifted n (Primitive p) = omega arith
bound_shifted n (Constant z) = omega arith
bound_shifted n (Control k) = omega arith
bound_shifted n (Slot s) = omega arith
bound_shifted n (Wave w) = omega arith
bound_shifted n (Table T writes) = omega arith
bound_shifted n (Bind s a) = bound_shifted n a
bound_shifted n (Par a b) = omega (arith, bound_shifted n a, bound_shifted n b)
bound_shifted n (Seq a b) = omega (arith, bound_shifted n a, bound_shifted n b)
bound_shifted n (Split a b) = omega (arith, bound_shifted n a, bound_shifted n b)
bound_shifted n (Merge a b) = omega (arith, bound_shifted n a, bound_shifted n b)
bound_shifted n (Rec a b) = omega (arith, bound_shifted n a, bound_shifted n b)

pub parts_are_whole : PartsAreWhole
parts_are_whole n [] = record { inputs = refl; outputs = refl; controls = λ h. omega arith; well = λ h. (tt, refl, refl); closed = λ h s f. none s f }
  where
    none : (s : ℕ) → ⊥ ⊎ ⊥ → ⊥
    none s (inl f) = f
    none s (inr f) = f
parts_are_whole n (p ∷ ps) = let w = parts_are_whole (n + length p.spans) ps in record {
  inputs = ap₂ (λ a b. a + b) (inputs_shifted n p.diagram) w.inputs ∙ sym (sum_by-cons (λ (q : Part). inputs q.diagram) p ps);
  outputs = ap₂ (λ a b. a + b) (outputs_shifted n p.diagram) w.outputs ∙ sym (sum_by-cons (λ (q : Part). outputs q.diagram) p ps);
  controls = λ h.
      let own = h 0 p (omega arith) in
      let others = w.controls (λ k d l. h (suc k) d (omega (arith, l))) in
      omega (arith, bound_shifted n p.diagram, own, others, sum_by-cons (λ (q : Part). length q.spans) p ps);
  well = λ h. (well_shifted n p.diagram (h 0 p (omega arith)), w.well (λ k d l. h (suc k) d (omega (arith, l))));
  closed = λ h s f. free s h (w.closed (λ k d l. h (suc k) d (omega (arith, l)))) f;
}
  where
    free : (s : ℕ) → AreClosed (p ∷ ps) → HasNoFreeSlot (side_by_side (n + length p.spans) ps)
        → IsFree s (shifted n p.diagram) ⊎ IsFree s (side_by_side (n + length p.spans) ps) → ⊥
    free s h rest (inl f) = h 0 p (omega arith) s (free_shifted n s p.diagram f)
    free s h rest (inr f) = rest s f
