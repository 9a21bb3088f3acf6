-- Steps that are added for operands.
use Rattle.std.proofs.Common.{◌≡◌, ◌≢◌, inl, inr, ℕ, ◌+◌, ◌<◌, List, [], ◌∷◌, ◌++◌, length, get_or, set, refl, sym, ap, ◌∙◌, subst, arith, ℤ}
use Rattle.std.proofs.Common.{pos, Bool, true, false}
use Rattle.std.proofs.lemmas.List.{length_push, length-append, get_or_push, get_or_append_left, append-nil, append_assoc, get_or-set_same, get_or-set_other}
use Rattle.std.proofs.lemmas.List.{length-set}
use Rattle.fv_signal.specs.headline.Value.{Graph}
use Rattle.fv_loopcode.specs.declared.step.Step.{Step}
use Rattle.fv_loopcode.specs.declared.step.Step.TheVariants as step
use Rattle.fv_loopcode.specs.headline.Obeys.{Roles, Place, OfLane, nothing, done_after}
use Rattle.fv_split_plan.specs.Reach.{at}
use Rattle.fv_split_code.specs.declared.kind.Kind.{Kind}
use Rattle.fv_split_code.specs.declared.kind.Kind.TheVariants as kind
use Rattle.fv_split_plan.specs.headline.Fits.{Names}
use Rattle.fv_split_plan.specs.Fits.{Mean, Value, Literal, mean_at, LoadFits, OfBack, OfNow, StepFits, CodeFits}
use Rattle.fv_split_code.specs.Emits.{FitsUpTo, Serves, KindFits, IsKnown, IsLoaded, IsKindWithin, MeansNow, owned_by, kind_of, MeanNow, AreFound}
use Rattle.std.proofs.lemmas.Bool.{eq-eqb, ne_eqb, lt-ltb, cases_eq}
use Rattle.std.specs.Prelude.{◌&&◌, nat_eq}

module _ (g : Graph) (p : Names) (r : Roles) where
  -- one more step
  fits_push : (done : Place → Bool) (ms : List Mean) (steps : List Step) (ends : List Mean) (ended : Place → Bool) (s : Step) (m : Mean) →
      FitsUpTo g p r done ms steps ends ended → StepFits g p r ended ends s m →
      FitsUpTo g p r done ms (steps ++ s ∷ []) (ends ++ m ∷ []) (done_after ended s)
  fits_push done ms [] ends ended s m h k =
      (m, subst (λ d. StepFits g p r d ms s m) h.1 (subst (λ e. StepFits g p r ended e s m) h.0 k), (ap (λ e. e ++ m ∷ []) h.0, ap (λ d. done_after d s) h.1))
  fits_push done ms (x ∷ xs) ends ended s m h k = (h.0, h.1, fits_push (done_after done x) (ms ++ h.0 ∷ []) xs ends ended s m h.2 k)

  -- no step more
  pub fits_whole : (done : Place → Bool) (ms : List Mean) (steps : List Step) (ends : List Mean) (ended : Place → Bool) →
      FitsUpTo g p r done ms steps ends ended → ((q : Place) → r.own q ≡ true → ended q ≡ true) → CodeFits g p r done ms steps
  fits_whole done ms [] ends ended h k = λ l o. sym (ap (λ d. d l) h.1) ∙ k l o
  fits_whole done ms (x ∷ xs) ends ended h k = (h.0, h.1, fits_whole (done_after done x) (ms ++ h.0 ∷ []) xs ends ended h.2 k)

  length_fits : (done : Place → Bool) (ms : List Mean) (steps : List Step) (ends : List Mean) (ended : Place → Bool) →
      FitsUpTo g p r done ms steps ends ended → length ends ≡ length ms + length steps
  length_fits done ms [] ends ended h = omega (arith, ap length h.0)
  length_fits done ms (s ∷ ss) ends ended h = omega (arith, length_fits (done_after done s) (ms ++ h.0 ∷ []) ss ends ended h.2, length_push ms h.0)

module _ (g : Graph) (p : Names) (r : Roles) (known : ℕ → Bool) (regs : List ℕ) (steps : List Step) (means : List Mean) (ended : Place → Bool) where
  -- one step more
  pub serves_push : (s : Step) (m : Mean) → Serves g p r known regs steps means ended → StepFits g p r ended means s m →
      Serves g p r known regs (steps ++ s ∷ []) (means ++ m ∷ []) (done_after ended s)
  serves_push s m h k = record {
    fits = fits_push g p r nothing [] steps means ended s m h.fits k;
    there = λ q e. let t = h.there q e in (omega (arith, length_push means m, t.0), get_or_append_left means (m ∷ []) (Literal (pos 0)) (at regs q) t.0 ∙ t.1);
  }

  pub long_means : Serves g p r known regs steps means ended → length means ≡ length steps
  long_means h = length_fits g p r nothing [] steps means ended h.fits ∙ (let z : 0 + length steps ≡ length steps = omega arith in z)

  pub means_last : (m : Mean) → Serves g p r known regs steps means ended → mean_at (means ++ m ∷ []) (length steps) ≡ m
  means_last m h = get_or_push means m (Literal (pos 0)) (length steps) (long_means h)

module _ (regs : List ℕ) (steps : List Step) (s : ℕ) where
  -- a register that is there
  means_known : (k : Kind) (own : ℕ → Bool) →
      ((g : Graph) (p : Names) (r : Roles) (known : ℕ → Bool) → ((l : ℕ) → r.own (OfLane l) ≡ own l) → IsKnown r known k s → known s ≡ true) →
      MeansNow regs steps steps s (at regs s) k own
  means_known k own is g p r known means ended o l f i h =
      let t = h.there s (is g p r known o i) in (
        [],
        subst (λ ms. Serves g p r known regs steps ms ended) (sym (append-nil means)) h,
        ap (λ ms. mean_at ms (at regs s)) (append-nil means) ∙ t.1,
        subst (λ ms. at regs s < length ms) (sym (append-nil means)) t.0,
      )

  -- one step
  means_step : (k : Kind) (own : ℕ → Bool) (x : Step) →
      ((g : Graph) (p : Names) (r : Roles) (means : List Mean) (ended : Place → Bool) → IsLoaded r k → KindFits g p k s →
      StepFits g p r ended means x (Value s) × (done_after ended x ≡ ended)) →
      MeansNow regs steps (steps ++ x ∷ []) s (length steps) k own
  means_step k own x is g p r known means ended o l f i h =
      let q = is g p r means ended l f in (
        Value s ∷ [],
        subst (Serves g p r known regs (steps ++ x ∷ []) (means ++ Value s ∷ [])) q.1 (serves_push g p r known regs steps means ended x (Value s) h q.0),
        means_last g p r known regs steps means ended (Value s) h,
        omega (arith, length_push means (Value s), long_means g p r known regs steps means ended h),
      )

  -- a number, and a load of a lane by it
  means_load : (k : Kind) (own : ℕ → Bool) (n l max : ℕ) → ((r : Roles) → ((j : ℕ) → r.own (OfLane j) ≡ own j) → IsLoaded r k → r.loaded l ≡ true) →
      ((g : Graph) (p : Names) (r : Roles) (means : List Mean) (ended : Place → Bool) → ((j : ℕ) → r.own (OfLane j) ≡ own j) → KindFits g p k s →
      length steps < length means → mean_at means (length steps) ≡ Literal (pos n) → LoadFits g p r ended means l (length steps) max (Value s)) →
      MeansNow regs steps ((steps ++ step.Number (pos n) ∷ []) ++ step.Load l (length steps) max ∷ []) s (length steps + 1) k own
  means_load k own n l max may is g p r known means ended o loaded f i h =
      let number = step.Number (pos n) in
      let literal = Literal (pos n) in
      let load = step.Load l (length steps) max in
      let one = serves_push g p r known regs steps means ended number literal h (inl refl) in
      let lit = means_last g p r known regs steps means ended literal h in
      let long = long_means g p r known regs steps means ended h in
      let there : length steps < length (means ++ literal ∷ []) = omega (arith, length_push means literal, long) in
      let two = serves_push g p r known regs (steps ++ number ∷ []) (means ++ literal ∷ []) ended load (Value s) one
      (may r o loaded, is g p r (means ++ literal ∷ []) ended o f there lit) in
      let z = append_assoc means (literal ∷ []) (Value s ∷ []) in
      let e : length (steps ++ number ∷ []) ≡ length steps + 1 = length_push steps number in (
        literal ∷ Value s ∷ [],
        subst (λ ms. Serves g p r known regs ((steps ++ number ∷ []) ++ load ∷ []) ms ended) z two,
        ap (λ ms. mean_at ms (length steps + 1)) (sym z) ∙ ap (mean_at ((means ++ literal ∷ []) ++ Value s ∷ [])) (sym e)
            ∙ means_last g p r known regs (steps ++ number ∷ []) (means ++ literal ∷ []) ended (Value s) one,
        omega (arith, length-append means (literal ∷ Value s ∷ []), long),
      )

  -- ---- the kinds

  pub means_number : (n : ℤ) (own : ℕ → Bool) → MeansNow regs steps (steps ++ step.Number n ∷ []) s (length steps) (kind.Number n) own
  means_number n own = means_step (kind.Number n) own (step.Number n) (λ g p r means ended l f. (inr (s, f, refl), refl))

  pub means_held : (k : ℕ) (own : ℕ → Bool) → MeansNow regs steps (steps ++ step.Held k ∷ []) s (length steps) (kind.Held k) own
  means_held k own = means_step (kind.Held k) own (step.Held k) (λ g p r means ended l f. ((f.0, ap Value (sym f.1)), refl))

  pub means_input : (i : ℕ) (own : ℕ → Bool) → MeansNow regs steps (steps ++ step.Input i ∷ []) s (length steps) (kind.Input i) own
  means_input i own = means_step (kind.Input i) own (step.Input i) (λ g p r means ended l f. ((s, f, refl), refl))

  pub means_back : (l : ℕ) (own : ℕ → Bool) →
      MeansNow regs steps ((steps ++ step.Number (pos 1) ∷ []) ++ step.Load l (length steps) 1 ∷ []) s (length steps + 1) (kind.Back l) own
  means_back l own = means_load (kind.Back l) own 1 l 1 (λ r o q. q) (λ g p r means ended o f i e. OfBack s f.0 f.1 f.2 f.3 f.4 e refl f.5 refl)

  pub means_other : (l : ℕ) (own : ℕ → Bool) → own l ≡ false →
      MeansNow regs steps ((steps ++ step.Number (pos 0) ∷ []) ++ step.Load l (length steps) 0 ∷ []) s (length steps + 1) (kind.Lane l) own
  means_other l own n =
      means_load (kind.Lane l) own 0 l 0 (λ r o q. q (o l ∙ n)) (λ g p r means ended o f i e. OfNow i e refl (o l ∙ n) (ap Value (sym f)))

  pub means_own : (l : ℕ) (own : ℕ → Bool) → own l ≡ true → MeansNow regs steps steps s (at regs s) (kind.Lane l) own
  means_own l own y = means_known (kind.Lane l) own (λ g p r known o i. i (o l ∙ y))

  pub means_inner : (own : ℕ → Bool) → MeansNow regs steps steps s (at regs s) kind.Inner own
  means_inner own = means_known kind.Inner own (λ g p r known o i. i)

-- the same of an equal kind
pub of_kind : (regs : List ℕ) (old new : List Step) (s w : ℕ) (k q : Kind) (own : ℕ → Bool) → k ≡ q → MeansNow regs old new s w q own →
    MeansNow regs old new s w k own
of_kind regs old new s w k q own e h = subst (λ x. MeansNow regs old new s w x own) (sym e) h

-- the same of an equal kind, an equal register and equal code
pub moved : (regs : List ℕ) (old a new : List Step) (s w v : ℕ) (k q : Kind) (own : ℕ → Bool) → k ≡ q → v ≡ w → new ≡ a →
    MeansNow regs old a s w q own → MeansNow regs old new s v k own
moved regs old a new s w v k q own ek e f h =
    subst (λ x. MeansNow regs old x s v k own) (sym f) (subst (λ y. MeansNow regs old a s y k own) (sym e) (of_kind regs old a s w k q own ek h))

-- a lane of the loop, and of another
pub owned_yes : (owners : List ℕ) (j l : ℕ) → l < length owners → get_or owners l 0 ≡ j → owned_by owners j l ≡ true
owned_yes owners j l h e = ap (λ b. b && nat_eq (get_or owners l 0) j) (lt-ltb l (length owners) h) ∙ eq-eqb (get_or owners l 0) j e

pub owned_no : (owners : List ℕ) (j l : ℕ) → l < length owners → get_or owners l 0 ≢ j → owned_by owners j l ≡ false
owned_no owners j l h e = ap (λ b. b && nat_eq (get_or owners l 0) j) (lt-ltb l (length owners) h) ∙ ne_eqb (get_or owners l 0) j e

pub lane_within : (n l : ℕ) (k : Kind) → k ≡ kind.Lane l → IsKindWithin n k → l < n
lane_within n l k e h = subst (IsKindWithin n) e h

-- ---- several operands

pub mean_none : (kinds : List Kind) (regs : List ℕ) (old : List Step) (signals found : List ℕ) (own : ℕ → Bool) → MeanNow kinds regs old old signals found 0 own
mean_none kinds regs old signals found own g p r known means ended o f h =
    ([], subst (λ ms. Serves g p r known regs old ms ended) (sym (append-nil means)) h, λ k m. absurd (omega arith))

pub mean_more : (kinds : List Kind) (regs : List ℕ) (old mid new : List Step) (signals found : List ℕ) (n w : ℕ) (own : ℕ → Bool) → n < length found →
    MeanNow kinds regs old mid signals found n own → MeansNow regs mid new (at signals n) w (kind_of kinds (at signals n)) own →
    MeanNow kinds regs old new signals (set found n w) (n + 1) own
mean_more kinds regs old mid new signals found n w own long a b g p r known means ended o f h =
    let x = a g p r known means ended o (λ k m. f k (omega arith)) h in
    let last = f n (omega arith) in
    let y = b g p r known (means ++ x.0) ended o last.2 last.0 last.1 x.1 in
    let z = append_assoc means x.0 y.0 in (
      x.0 ++ y.0,
      subst (λ ms. Serves g p r known regs new ms ended) z y.1,
      λ k m. subst (λ ms. (at (set found n w) k < length ms) × (mean_at ms (at (set found n w) k) ≡ Value (at signals k))) z
          (elim (cases_eq k n) [
            | inl e ↦ let q : at (set found n w) k ≡ w = ap (at (set found n w)) e ∙ get_or-set_same found n w 0 long in
                (omega (arith, y.3, q), ap (mean_at ((means ++ x.0) ++ y.0)) q ∙ y.2 ∙ ap (λ i. Value (at signals i)) (sym e))
            | inr e ↦ let q : at (set found n w) k ≡ at found k = get_or-set_other found n k w 0 e in
                let t = x.2 k (omega arith) in (
                  omega (arith, t.0, q, length-append (means ++ x.0) y.0),
                  ap (mean_at ((means ++ x.0) ++ y.0)) q
                      ∙ get_or_append_left (means ++ x.0) y.0 (Literal (pos 0)) (at found k) t.0 ∙ t.1,
                )
          ]),
    )

-- ---- the registers that are found

pub found_none : (found : List ℕ) → length found ≡ 4 → ((k : ℕ) → at found k ≡ 0) → AreFound found 0
found_none found e z = record { four = e; rest = λ k l. z k }

pub found_more : (found : List ℕ) (n w : ℕ) → AreFound found n → AreFound (set found n w) (n + 1)
found_more found n w h = record {
  four = length-set found n w ∙ h.four;
  rest = λ k l. get_or-set_other found n k w 0 (λ e. absurd (omega arith)) ∙ h.rest k (omega arith);
}
