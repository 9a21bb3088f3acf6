-- The streams of a runner's steps.
use Rattle.std.proofs.Common.{◌≡◌, ℕ, suc, ◌+◌, ◌<◌, List, [], ◌∷◌, ◌++◌, length, get_or, map, ap, ◌∙◌, subst, arith, pos, refl}
use Rattle.std.proofs.lemmas.List.{get_or_push, length_push, get_or-map}
use mathlib.Core.Path.{fun_ext}
use Rattle.fv_base.specs.headline.Lists.{IsPrefixOf}
use Rattle.fv_num.specs.headline.Words.{argument}
use Rattle.fv_num.specs.headline.Frames.{Stream, delayed, back}
use Rattle.fv_num.specs.inner.Valuation.{IsCausalAt, AreCausalFrom}
use Rattle.fv_num.proofs.lemmas.Valued.{valuation_is}
use Rattle.fv_diagram_runner.specs.declared.step.Step.{Step}
use Rattle.std.proofs.Common.{ℤ, ◌≤◌}
use Rattle.fv_num.specs.headline.Tables.{place, read_at, written_at}
use Rattle.fv_num.proofs.lemmas.Tables.{last_written_same}
use Rattle.fv_diagram_runner.specs.declared.step.Step.TheVariants as step
use Rattle.fv_diagram_runner.specs.Steps.{step_value, in_streams, step_at, OperandsBelow, AreOrdered, wires}
use Rattle.fv_diagram.proofs.lemmas.Causality.{delayed_same, back_same}
use Rattle.fv_diagram.proofs.lemmas.Places.{prefix_long, prefix_get}
use Rattle.fv_diagram_runner.proofs.StepLists.{step_value_same}
use Rattle.std.proofs.lemmas.Bool.{cases_lt}
use Rattle.std.proofs.Common.{inl, inr}

-- a stream up to time t
up_to : (v v' : ℕ → Stream) (t w : ℕ) → ((w u : ℕ) → u < t → v w u ≡ v' w u) → v w t ≡ v' w t → (u : ℕ) → u ≤ t → v w u ≡ v' w u
up_to v v' t w p q u b = elim (cases_lt u t) [
  | inl g ↦ p w u g
  | inr g ↦ let e : t ≡ u = omega arith in subst (λ z. v w z ≡ v' w z) e q
]

-- streams that are the same before time t, and at time t where the operands are, recall the same
in_streams_same : (begun : List (List ℤ)) (v v' : ℕ → Stream) (t i : ℕ) (s : Step) → OperandsBelow i s
    → ((w u : ℕ) → u < t → v w u ≡ v' w u) → ((w : ℕ) → w < i → v w t ≡ v' w t) → in_streams begun v t s ≡ in_streams begun v' t s
in_streams_same begun v v' t i (step.Number n) h p q = refl
in_streams_same begun v v' t i (step.Control k) h p q = refl
in_streams_same begun v v' t i (step.Input k) h p q = refl
in_streams_same begun v v' t i (step.Point op args) h p q = refl
in_streams_same begun v v' t i (step.Cell k) h p q = refl
in_streams_same begun v v' t i (step.Back x d list) h p q =
    ap (back (v x) t) (q d h.1) ∙ back_same (v x) (v' x) t (v' d t) (λ u b. up_to v v' t x p (q x h.0) u b)
in_streams_same begun v v' t i (step.Read r list) h p q = ap (read_at (get_or begun list [])) (q r h)
in_streams_same begun v v' t i (step.Write w x r list) h p q =
    let T = get_or begun list [] in
    ap (written_at T (v w) (v x) t) (q r h.2)
    ∙ last_written_same T (v w) (v' w) (v x) (v' x) (place (length T) (v' r t)) t (λ u b. up_to v v' t w p (q w h.0) u b)
    (λ u b. up_to v v' t x p (q x h.1) u b)

module _ (sources : List ℕ) (begun : List (List ℤ)) (c x : ℕ → Stream) where
  step_causal : (i : ℕ) (s : Step) → OperandsBelow i s → IsCausalAt (step_at sources begun c x) i s
  step_causal i s h v v' t p q =
      ap (λ f. step_value (λ k. c k t) (λ k. x k t) (argument (map f sources)) (in_streams begun v t) (λ w. v w t) s)
      (fun_ext (λ w. delayed_same (v w) (v' w) t (λ u l. p w u l)))
      ∙ step_value_same (λ k. c k t) (λ k. x k t) (argument (map (λ w. delayed (v' w) t) sources)) (λ w. v w t) (λ w. v' w t)
      (in_streams begun v t) (in_streams begun v' t) i s h q (in_streams_same begun v v' t i s h p q)

  steps_causal : (i : ℕ) (ss : List Step) → ((j : ℕ) (d : Step) → j < length ss → OperandsBelow (i + j) (get_or ss j d)) →
      AreCausalFrom (step_at sources begun c x) i ss
  steps_causal i [] h = tt
  steps_causal i (s ∷ ss) h =
      let z : i + 0 ≡ i = omega arith in (
        step_causal i s (subst (λ n. OperandsBelow n s) z (h 0 s (omega arith))),
        steps_causal (suc i) ss (λ j d l. let e : i + suc j ≡ suc i + j = omega arith in subst (λ n. OperandsBelow n (get_or ss j d)) e
            (h (suc j) d (omega arith))),
      )

  pub step_is : (more : List Step) (i : ℕ) (s : Step) (t : ℕ) → AreOrdered more → i < length more → get_or more i s ≡ s →
      wires more sources begun c x i t ≡ step_at sources begun c x (wires more sources begun c x) s t
  step_is more i s t h l e =
      valuation_is (step_at sources begun c x) more (steps_causal 0 more
      (λ j d m. let z : j ≡ 0 + j = omega arith in subst (λ n. OperandsBelow n (get_or more j d)) z (h j d m)))
      i s s l e (step_causal i s (subst (OperandsBelow i) e (h i s l))) t

  -- where more steps follow, the register of the last one has what that step gives
  pub last_is : (steps more : List Step) (s : Step) (t : ℕ) → IsPrefixOf (steps ++ s ∷ []) more → AreOrdered more →
      wires more sources begun c x (length steps) t ≡ step_at sources begun c x (wires more sources begun c x) s t
  last_is steps more s t b o =
      step_is more (length steps) s t o
      (omega (arith, prefix_long (steps ++ s ∷ []) more b, length_push steps s))
      (prefix_get (steps ++ s ∷ []) more (length steps) s b (omega (arith, length_push steps s)) ∙ get_or_push steps s s (length steps) refl)

-- cell k holds its source one sample later
pub cell_is : (v : ℕ → Stream) (sources : List ℕ) (k : ℕ) (t : ℕ) → k < length sources →
    argument (map (λ w. delayed (v w) t) sources) k ≡ delayed (v (get_or sources k 0)) t
cell_is v sources k t l = get_or-map (λ w. delayed (v w) t) sources k 0 (pos 0) l
